-- The laws of a ring pass to the ring that answers 0 outside of its codes. Assumes nothing.
use Rattle.std.proofs.Common.{◌≡◌, ℕ, Bool, true, false, ◌&&◌, cond, sym, refl, ap, ◌∙◌, subst, ap₂}
use Rattle.std.proofs.lemmas.Bool.{and_parts}
use Rattle.algebra.specs.Ring.{Ring, Code, Laws, Lawful, on_codes, guarded}

cond_out : (b : Bool) (x : ℕ) → (b ≡ true → ⊥) → cond b x 0 ≡ 0
cond_out true x f = absurd (f refl)
cond_out false x f = refl

module _ (is : ℕ → Bool) (f : ℕ → ℕ → ℕ) where
  pub inside : (a b : ℕ) → is a ≡ true → is b ≡ true → on_codes is f a b ≡ f a b
  inside a b s t = rw (s, t)

module _ (r : Ring) (l : Laws r) where
  sum_in : (a b : ℕ) → Code r a → Code r b → (guarded r).sum a b ≡ r.sum a b
  sum_in = inside r.code r.sum

  product_in : (a b : ℕ) → Code r a → Code r b → (guarded r).product a b ≡ r.product a b
  product_in = inside r.code r.product

  negative_in : (a : ℕ) → Code r a → (guarded r).negative a ≡ r.negative a
  negative_in a s = rw s

  coded : {x y : ℕ} → x ≡ y → Code r y → Code r x
  coded e t = subst (Code r) (sym e) t

  -- two operations in a row
  module _ (f g : ℕ → ℕ → ℕ) (g-code : (a b : ℕ) → Code r a → Code r b → Code r (g a b)) where
    pub row_l : (a b c : ℕ) → Code r a → Code r b → Code r c → on_codes r.code f (on_codes r.code g a b) c ≡ f (g a b) c
    row_l a b c s t u = ap (λ (x : ℕ). on_codes r.code f x c) (inside r.code g a b s t) ∙ inside r.code f (g a b) c (g-code a b s t) u

    pub row_r : (a b c : ℕ) → Code r a → Code r b → Code r c → on_codes r.code f a (on_codes r.code g b c) ≡ f a (g b c)
    row_r a b c s t u = ap (on_codes r.code f a) (inside r.code g b c t u) ∙ inside r.code f a (g b c) s (g-code b c t u)

  pub guarded_laws : Laws (guarded r)
  guarded_laws = record {
    code_below = l.code_below;
    zero_code = l.zero_code;
    one_code = l.one_code;
    base_code = l.base_code;
    sum_code = λ a b s t. coded (sum_in a b s t) (l.sum_code a b s t);
    negative_code = λ a s. coded (negative_in a s) (l.negative_code a s);
    product_code = λ a b s t. coded (product_in a b s t) (l.product_code a b s t);
    sum_assoc = λ a b c s t u.
        row_l r.sum r.sum l.sum_code a b c s t u ∙ l.sum_assoc a b c s t u ∙ sym (row_r r.sum r.sum l.sum_code a b c s t u);
    sum_comm = λ a b s t. sum_in a b s t ∙ l.sum_comm a b s t ∙ sym (sum_in b a t s);
    sum_zero = λ a s. sum_in a 0 s l.zero_code ∙ l.sum_zero a s;
    sum_negative = λ a s.
        ap ((guarded r).sum a) (negative_in a s) ∙ sum_in a (r.negative a) s (l.negative_code a s) ∙ l.sum_negative a s;
    product_assoc = λ a b c s t u.
        row_l r.product r.product l.product_code a b c s t u ∙ l.product_assoc a b c s t u
        ∙ sym (row_r r.product r.product l.product_code a b c s t u);
    product_comm = λ a b s t. product_in a b s t ∙ l.product_comm a b s t ∙ sym (product_in b a t s);
    product_one = λ a s. product_in a r.one s l.one_code ∙ l.product_one a s;
    distributes = λ a b c s t u.
        row_l r.product r.sum l.sum_code a b c s t u ∙ l.distributes a b c s t u
        ∙ sym (ap₂ (guarded r).sum (product_in a c s u) (product_in b c t u)
        ∙ sum_in (r.product a c) (r.product b c) (l.product_code a c s u) (l.product_code b c t u));
  }

  pub guarded_lawful : Lawful (guarded r)
  guarded_lawful = record {
    laws = guarded_laws;
    sum_outside = λ a b f. cond_out (r.code a && r.code b) (r.sum a b) (λ e. f (and_parts _ _ e));
    negative_outside = λ a f. cond_out (r.code a) (r.negative a) f;
    product_outside = λ a b f. cond_out (r.code a && r.code b) (r.product a b) (λ e. f (and_parts _ _ e));
  }
