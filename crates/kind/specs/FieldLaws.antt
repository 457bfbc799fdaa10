-- The laws of the field kind, for every degree and modulus. Assumes nothing.
use Rattle.std.proofs.Common.{sym, ap, ◌∙◌, lt_of_lt_of_le, le_trans, arith, lit≤, pow_mono}
use Rattle.std.specs.Prelude.{ℕ, ◌^◌, ◌≤◌, bit_xor}
use Rattle.std.proofs.lemmas.Nat.{xor_comm, xor_lt}
use Rattle.std.specs.Int.Bits.{xor_assoc, xor_zero_r, xor_self}
use Rattle.algebra.specs.Gf2.{◌⊗◌, Degree, remainder}
use Rattle.algebra.proofs.Product.{times_comm, times_assoc, times_xor_l, one_times}
use Rattle.algebra.proofs.Remainders.{exists, remainder_small, remainder_xor, remainder_times, remainder_times_r}
use Rattle.std.proofs.lemmas.Bool.{ltb-true, lt-ltb}
use Rattle.algebra.specs.Ring.{Laws, Lawful}
use Rattle.kind.specs.Field.{FieldSize, quotient, field}
use Rattle.algebra.proofs.Guard.{guarded_lawful}

module _ (k p : ℕ) (sized : FieldSize k p) where
  deg : Degree k p
  deg = sized.degree

  most : k ≤ 32
  most = le_trans sized.most (lit≤ tt)

  four : 4 ≤ 2 ^ k
  four = pow_mono sized.least

  pub quotient_laws : Laws (quotient k p)
  quotient_laws = record {
    code_below = λ a s. lt_of_lt_of_le (ltb-true a (2 ^ k) s) (pow_mono most);
    zero_code = lt-ltb 0 (2 ^ k) (omega (arith, four));
    one_code = lt-ltb 1 (2 ^ k) (omega (arith, four));
    base_code = lt-ltb 2 (2 ^ k) (omega (arith, four));
    sum_code = λ a b s t. lt-ltb (bit_xor a b) (2 ^ k) (xor_lt k a b (ltb-true a (2 ^ k) s) (ltb-true b (2 ^ k) t));
    negative_code = λ a s. s;
    product_code = λ a b s t. lt-ltb (remainder k p (a ⊗ b)) (2 ^ k) (exists k p deg (a ⊗ b)).small;
    sum_assoc = λ a b c s t u. xor_assoc a b c;
    sum_comm = λ a b s t. xor_comm a b;
    sum_zero = λ a s. xor_zero_r a;
    sum_negative = λ a s. xor_self a;
    product_assoc = λ a b c s t u.
        remainder_times k p deg (a ⊗ b) c ∙ ap (remainder k p) (times_assoc a b c) ∙ sym (remainder_times_r k p deg a (b ⊗ c));
    product_comm = λ a b s t. ap (remainder k p) (times_comm a b);
    product_one = λ a s. ap (remainder k p) (times_comm a 1 ∙ one_times a) ∙ remainder_small k p deg a (ltb-true a (2 ^ k) s);
    distributes = λ a b c s t u. ap (remainder k p) (times_xor_l a b c) ∙ remainder_xor k p deg (a ⊗ c) (b ⊗ c);
  }

  pub field_lawful : Lawful (field k p)
  field_lawful = guarded_lawful (quotient k p) quotient_laws
