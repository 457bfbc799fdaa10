-- Integer multiples and powers in a lawful ring. Assumes nothing.
use Rattle.std.proofs.Common.{◌≡◌, ℕ, zero, suc, cond, ℤ, pos, negsuc, ◌+ℤ◌, sym, refl, ap, ◌∙◌, subst, ap₂, zero-le, le-ltb}
use lib.IntN.{suc_ℤ, pred_ℤ, suc-pred, +ℤ_idl, suc_ℤ-+ℤ, pred_ℤ-+ℤ}
use Rattle.algebra.specs.Ring.{Ring, Code, Laws, Lawful}
use Rattle.algebra.specs.Repeated.{Monoid, many, multiple, Multiples, Powers}
use Rattle.algebra.proofs.Repeats.{repeated_in, repeated_add}

-- the multiple by cases on the integer
abbrev by_sign : Ring → ℤ → ℕ → ℕ
by_sign r (pos n) c = many r n c
by_sign r (negsuc n) c = r.negative (many r (suc n) c)

multiple_is : (r : Ring) (z : ℤ) (c : ℕ) → multiple r z c ≡ by_sign r z c
multiple_is r (pos n) c = ap (λ b. cond b (r.negative (many r n c)) (many r n c)) (le-ltb n 0 zero-le)
multiple_is r (negsuc n) c = refl

module _ (r : Ring) (l : Laws r) where
  zero_sum : (a : ℕ) → Code r a → r.sum 0 a ≡ a
  zero_sum a s = l.sum_comm 0 a l.zero_code s ∙ l.sum_zero a s

  one_product : (a : ℕ) → Code r a → r.product r.one a ≡ a
  one_product a s = l.product_comm r.one a l.one_code s ∙ l.product_one a s

  pub sums : Monoid (Code r) r.sum 0
  sums = record { unit_in = l.zero_code; op_in = l.sum_code; assoc = l.sum_assoc; left = zero_sum; right = l.sum_zero }

  pub products : Monoid (Code r) r.product r.one
  products = record { unit_in = l.one_code; op_in = l.product_code; assoc = l.product_assoc; left = one_product; right = l.product_one }

  many_code : (n c : ℕ) → Code r c → Code r (many r n c)
  many_code = repeated_in sums

  -- what sums to 0 with a is its negative
  only_negative : (a b : ℕ) → Code r a → Code r b → r.sum a b ≡ 0 → b ≡ r.negative a
  only_negative a b s t e =
      let n = r.negative a in
      let u = l.negative_code a s in
      sym (l.sum_zero b t) ∙ ap (r.sum b) (sym (l.sum_negative a s)) ∙ sym (l.sum_assoc b a n t s u)
      ∙ ap (λ (x : ℕ). r.sum x n) (l.sum_comm b a t s ∙ e)
      ∙ zero_sum n u

  negative_zero : r.negative 0 ≡ 0
  negative_zero = sym (only_negative 0 0 l.zero_code l.zero_code (l.sum_zero 0 l.zero_code))

  zero_product : (b : ℕ) → Code r b → r.product 0 b ≡ 0
  zero_product b t =
      let x = r.product 0 b in
      let s = l.product_code 0 b l.zero_code t in
      let n = r.negative x in
      let u = l.negative_code x s in
      let e : r.sum x x ≡ x = sym (l.distributes 0 0 b l.zero_code l.zero_code t) ∙ ap (λ (y : ℕ). r.product y b) (l.sum_zero 0 l.zero_code) in
      sym (l.sum_zero x s) ∙ ap (r.sum x) (sym (l.sum_negative x s)) ∙ sym (l.sum_assoc x x n s s u) ∙ ap (λ (y : ℕ). r.sum y n) e
      ∙ l.sum_negative x s

  negative_product : (a b : ℕ) → Code r a → Code r b → r.product (r.negative a) b ≡ r.negative (r.product a b)
  negative_product a b s t =
      let n = r.negative a in
      let u = l.negative_code a s in
      only_negative (r.product a b) (r.product n b) (l.product_code a b s t) (l.product_code n b u t)
      (sym (l.distributes a n b s u t) ∙ ap (λ (x : ℕ). r.product x b) (l.sum_negative a s) ∙ zero_product b t)

  multiple_code : (z : ℤ) (c : ℕ) → Code r c → Code r (by_sign r z c)
  multiple_code (pos n) c s = many_code n c s
  multiple_code (negsuc n) c s = l.negative_code (many r (suc n) c) (many_code (suc n) c s)

  -- one more, one less
  multiple_suc : (z : ℤ) (c : ℕ) → Code r c → by_sign r (suc_ℤ z) c ≡ r.sum c (by_sign r z c)
  multiple_suc (pos n) c s = refl
  multiple_suc (negsuc zero) c s = sym (ap (λ (x : ℕ). r.sum c (r.negative x)) (l.sum_zero c s) ∙ l.sum_negative c s)
  multiple_suc (negsuc (suc n)) c s =
      let m = many r (suc n) c in
      let t = many_code (suc n) c s in
      let u = l.sum_code c m s t in
      let v = r.negative (r.sum c m) in
      let w = l.negative_code (r.sum c m) u in
      sym (only_negative m (r.sum c v) t (l.sum_code c v s w)
      (sym (l.sum_assoc m c v t s w) ∙ ap (λ (x : ℕ). r.sum x v) (l.sum_comm m c t s) ∙ l.sum_negative (r.sum c m) u))

  multiple_pred : (z : ℤ) (c : ℕ) → Code r c → by_sign r (pred_ℤ z) c ≡ r.sum (r.negative c) (by_sign r z c)
  multiple_pred z c s =
      let x = by_sign r (pred_ℤ z) c in
      let t = multiple_code (pred_ℤ z) c s in
      let n = r.negative c in
      let u = l.negative_code c s in
      sym (ap (λ (y : ℤ). r.sum n (by_sign r y c)) (sym (suc-pred z)) ∙ ap (r.sum n) (multiple_suc (pred_ℤ z) c s) ∙ sym (l.sum_assoc n c x u s t)
      ∙ ap (λ (y : ℕ). r.sum y x) (l.sum_comm n c u s ∙ l.sum_negative c s)
      ∙ zero_sum x t)

  -- a step on the left summand passes to the sum
  step : (d : ℕ) (y z : ℤ) (c : ℕ) → Code r d → Code r c → by_sign r (y +ℤ z) c ≡ r.sum (by_sign r y c) (by_sign r z c)
      → r.sum d (by_sign r (y +ℤ z) c) ≡ r.sum (r.sum d (by_sign r y c)) (by_sign r z c)
  step d y z c s t e = ap (r.sum d) e ∙ sym (l.sum_assoc d (by_sign r y c) (by_sign r z c) s (multiple_code y c t) (multiple_code z c t))

  none_sum : (z : ℤ) (c : ℕ) → Code r c → by_sign r (pos zero +ℤ z) c ≡ r.sum 0 (by_sign r z c)
  none_sum z c s = ap (λ (x : ℤ). by_sign r x c) (+ℤ_idl z) ∙ sym (zero_sum (by_sign r z c) (multiple_code z c s))

  multiple_sum : (y z : ℤ) (c : ℕ) → Code r c → by_sign r (y +ℤ z) c ≡ r.sum (by_sign r y c) (by_sign r z c)
  multiple_sum (pos zero) z c s = none_sum z c s
  multiple_sum (pos (suc n)) z c s =
      ap (λ (x : ℤ). by_sign r x c) (suc_ℤ-+ℤ (pos n) z) ∙ multiple_suc (pos n +ℤ z) c s ∙ step c (pos n) z c s s (multiple_sum (pos n) z c s)
  multiple_sum (negsuc zero) z c s =
      ap (λ (x : ℤ). by_sign r x c) (pred_ℤ-+ℤ (pos zero) z) ∙ multiple_pred (pos zero +ℤ z) c s
      ∙ step (r.negative c) (pos zero) z c (l.negative_code c s) s (none_sum z c s)
      ∙ ap (λ (x : ℕ). r.sum x (by_sign r z c)) (sym (multiple_pred (pos zero) c s))
  multiple_sum (negsuc (suc n)) z c s =
      ap (λ (x : ℤ). by_sign r x c) (pred_ℤ-+ℤ (negsuc n) z) ∙ multiple_pred (negsuc n +ℤ z) c s
      ∙ step (r.negative c) (negsuc n) z c (l.negative_code c s) s (multiple_sum (negsuc n) z c s)
      ∙ ap (λ (x : ℕ). r.sum x (by_sign r z c)) (sym (multiple_pred (negsuc n) c s))

  many_product : (n a b : ℕ) → Code r a → Code r b → r.product (many r n a) b ≡ many r n (r.product a b)
  many_product zero a b s t = zero_product b t
  many_product (suc n) a b s t = l.distributes a (many r n a) b s (many_code n a s) t ∙ ap (r.sum (r.product a b)) (many_product n a b s t)

  multiple_product : (z : ℤ) (a b : ℕ) → Code r a → Code r b → r.product (by_sign r z a) b ≡ by_sign r z (r.product a b)
  multiple_product (pos n) a b s t = many_product n a b s t
  multiple_product (negsuc n) a b s t =
      negative_product (many r (suc n) a) b (many_code (suc n) a s) t ∙ ap r.negative (many_product (suc n) a b s t)

module _ (r : Ring) (l : Lawful r) where
  pub many_outside : (n c : ℕ) → (Code r c → ⊥) → many r n c ≡ 0
  many_outside zero c f = refl
  many_outside (suc n) c f = l.sum_outside c (many r n c) (λ both. f both.0)

  multiple_outside : (z : ℤ) (c : ℕ) → (Code r c → ⊥) → by_sign r z c ≡ 0
  multiple_outside (pos n) c f = many_outside n c f
  multiple_outside (negsuc n) c f = ap r.negative (many_outside (suc n) c f) ∙ negative_zero r l.laws

  pub multiples : Multiples r
  multiples = record {
    code = λ z c s. subst (Code r) (sym (multiple_is r z c)) (multiple_code r l.laws z c s);
    once = λ c s. multiple_is r (pos 1) c ∙ l.laws.sum_zero c s;
    sum = λ y z c s.
        multiple_is r (y +ℤ z) c ∙ multiple_sum r l.laws y z c s ∙ sym (ap₂ r.sum (multiple_is r y c) (multiple_is r z c));
    product = λ z a b s t.
        ap (λ (x : ℕ). r.product x b) (multiple_is r z a) ∙ multiple_product r l.laws z a b s t ∙ sym (multiple_is r z (r.product a b));
    outside = λ z c f. multiple_is r z c ∙ multiple_outside z c f;
  }

  pub powers : Powers r
  powers =
      let b = l.laws.base_code in
      let m = products r l.laws in
      record {
        code = λ n. repeated_in m n r.base b;
        none = refl;
        once = l.laws.product_one r.base b;
        sum = λ i j. repeated_add m i j r.base b;
      }
