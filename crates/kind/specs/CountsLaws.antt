-- The laws of the counts kind, for every width. Assumes nothing.
use Rattle.std.specs.Prelude.{◌≡◌, ℕ, ◌+◌, ◌-◌, ◌*◌, ◌%◌, ◌^◌, ◌≤◌, IsTrue, nat_lt}
use Rattle.std.proofs.Common.{sym, ap, ◌∙◌, lt_of_lt_of_le, mod-lt, mod-eq_of_lt, add_assoc, add_comm, add-zero, mul_assoc, mul_comm, mul-one, add-mul, arith, pow_pos, pow_mono}
use Rattle.std.proofs.Math.Nat.{mod_self, mod-add-mod, add-mod-mod, add-mod}
use Rattle.std.proofs.lemmas.Nat.{mul-mod_first, mul-mod_second}
use Rattle.std.proofs.lemmas.Bool.{ltb-true, lt-ltb}
use Rattle.algebra.specs.Ring.{Laws, Lawful}
use Rattle.kind.specs.Counts.{CountsSize, modular, counts}
use Rattle.algebra.proofs.Guard.{guarded_lawful}

module _ (m : ℕ) (sized : CountsSize m) where
  two : 2 ≤ 2 ^ m
  two = pow_mono sized.least

  same : {x y : ℕ} → x ≡ y → x % 2 ^ m ≡ y % 2 ^ m
  same e = ap (λ n. n % 2 ^ m) e

  code : (x : ℕ) → IsTrue (nat_lt (x % 2 ^ m) (2 ^ m))
  code x = lt-ltb (x % 2 ^ m) (2 ^ m) (mod-lt x (pow_pos m))

  pub modular_laws : Laws (modular m)
  modular_laws = record {
    code_below = λ a s. lt_of_lt_of_le (ltb-true a (2 ^ m) s) (pow_mono sized.most);
    zero_code = lt-ltb 0 (2 ^ m) (pow_pos m);
    one_code = lt-ltb 1 (2 ^ m) two;
    base_code = code 2;
    sum_code = λ a b s t. code (a + b);
    negative_code = λ a s. code (2 ^ m - a);
    product_code = λ a b s t. code (a * b);
    sum_assoc = λ a b c s t u. mod-add-mod (a + b) (2 ^ m) c ∙ same (add_assoc a b c) ∙ sym (add-mod-mod a (b + c) (2 ^ m));
    sum_comm = λ a b s t. same (add_comm a b);
    sum_zero = λ a s. same (add-zero a) ∙ mod-eq_of_lt (ltb-true a (2 ^ m) s);
    sum_negative = λ a s.
        let l = ltb-true a (2 ^ m) s in
        let e : a + (2 ^ m - a) ≡ 2 ^ m = omega arith in
        add-mod-mod a (2 ^ m - a) (2 ^ m) ∙ same e ∙ mod_self (2 ^ m);
    product_assoc = λ a b c s t u. mul-mod_first (a * b) c (2 ^ m) ∙ same (mul_assoc a b c) ∙ sym (mul-mod_second a (b * c) (2 ^ m));
    product_comm = λ a b s t. same (mul_comm a b);
    product_one = λ a s. same (mul-one a) ∙ mod-eq_of_lt (ltb-true a (2 ^ m) s);
    distributes = λ a b c s t u. mul-mod_first (a + b) c (2 ^ m) ∙ same (add-mul a b c) ∙ add-mod (a * c) (b * c) (2 ^ m);
  }

  pub counts_lawful : Lawful (counts m)
  counts_lawful = guarded_lawful (modular m) modular_laws
