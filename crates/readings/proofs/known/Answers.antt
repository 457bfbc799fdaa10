use Rattle.std.proofs.Common.{◌≡◌, ◌∙◌, refl, rules}
use Rattle.readings.proofs.Examples.{smallest_field, aes_product}
use Rattle.readings.proofs.known.Goals as goal

pub returns-clause-fact : goal.returns-clause-fact
returns-clause-fact c = record { smallest_field = smallest_field; aes_product = aes_product; widest_counts = refl }

pub returns-clause-answers : goal.returns-clause-answers
returns-clause-answers c =
    let four = c.in_ok-new.ensures in
    let aes = c.in_ok-new-2.ensures in
    let a : c.product.result ≡ 3 = (rw (four.1, four.2) at c.product.ensures.ring) ∙ smallest_field in
    let b : c.product-2.result ≡ 0xC1 = (rw (aes.1, aes.2) at c.product-2.ensures.ring) ∙ aes_product in
    let d : c.product-3.result ≡ 0 = search rules in
    cc
