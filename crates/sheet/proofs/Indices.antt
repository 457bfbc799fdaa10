-- The index of a list of labels: which labels stand in it, how many, and what one label more makes of it.
use Rattle.std.proofs.Common.{◌≡◌, ℕ, suc, ◌+◌, ◌<◌, ◌≤◌, Bool, true, cond, ltb, ◌||◌, List, [], ◌∷◌, ◌++◌, length, sym, refl, ap, ◌∙◌, inl, inr, le-leb, arith}
use Rattle.std.proofs.lemmas.Bool.{eq-eqb, ne_eqb, cases_eq}
use Rattle.std.proofs.lemmas.List.{length-append}
use Rattle.std.proofs.lemmas.Grind.{common_steps}
use Rattle.algebra.specs.Poly.{Poly, at, put, standing, Rising}
use Rattle.algebra.proofs.Polys.{at_put, rising_put}
use Rattle.algebra.proofs.Rows.{length_standing}
use Rattle.algebra.proofs.Lengths.{length_put}
use Rattle.store.specs.Answers.{Wrote}
use Rattle.store.specs.Stores.{at_most, fits}
use Rattle.sheet.specs.Sheets.{has}
use Rattle.sheet.specs.Index.{indexed, index}

indexed-push : (p : Poly) (n : ℕ) (ls : List ℕ) (l : ℕ) → indexed p n (ls ++ l ∷ []) ≡ put (indexed p n ls) l (suc (n + length ls))
indexed-push p n [] l = ap (λ (k : ℕ). put p l (suc k)) (omega arith)
indexed-push p n (x ∷ ls) l =
    indexed-push (put p x (suc n)) (suc n) ls l ∙ ap (λ (k : ℕ). put (indexed (put p x (suc n)) (suc n) ls) l (suc k)) (omega arith)

length_indexed : (p : Poly) (n : ℕ) (ls : List ℕ) → Rising p → length (indexed p n ls) ≤ length p + length ls
length_indexed p n [] r = omega arith
length_indexed p n (x ∷ ls) r =
    let rest = length_indexed (put p x (suc n)) (suc n) ls (rising_put p x (suc n) r) in
    let one = length_put p x (suc n) r in
    omega arith

stands_indexed : (p : Poly) (n : ℕ) (ls : List ℕ) (l : ℕ) → Rising p → ltb 0 (at (indexed p n ls) l) ≡ (ltb 0 (at p l) || has l ls)
stands_indexed p n [] l r = grind (arith, common_steps)
stands_indexed p n (x ∷ ls) l r =
    let rest = stands_indexed (put p x (suc n)) (suc n) ls l (rising_put p x (suc n) r) in
    let here = at_put p x (suc n) r l in
    rest ∙ rw here (elim (cases_eq x l) [ inl e ↦ rw (eq-eqb x l e) (grind (arith, common_steps)) | inr n ↦ rw (ne_eqb x l n) refl ])

-- one label more
pub index_push : (ls : List ℕ) (l v : ℕ) → v ≡ length ls + 1 → put (index ls) l v ≡ index (ls ++ l ∷ [])
index_push ls l v e = ap (put (index ls) l) (omega arith) ∙ sym (indexed-push [] 0 ls l)

length_index : (ls : List ℕ) → length (index ls) ≤ length ls
length_index ls = let h = length_indexed [] 0 ls tt in omega arith

-- a label that is read as more than 0 is one of the labels
pub known : (p : Poly) (ls : List ℕ) (l n : ℕ) → n ≡ at p l → p ≡ index ls → ltb 0 n ≡ has l ls
known p ls l n e i = rw (e, i) (stands_indexed [] 0 ls l tt)

-- a table of the index with room for one label more holds the next index after the write
pub indexed_after :
    (p q : Poly) (ls : List ℕ) (l v room : ℕ) (r : Bool) → p ≡ index ls → v ≡ length ls + 1 → length ls < room →
    Wrote (fits (at_most room)) p l v q r → q ≡ index (ls ++ l ∷ [])
indexed_after p q ls l v room r i e h w =
    let put_is : put p l v ≡ index (ls ++ l ∷ []) = ap (λ x. put x l v) i ∙ index_push ls l v e in
    let long : length (standing (put p l v)) ≤ room =
    omega (arith, length_standing (put p l v), ap length put_is, length_index (ls ++ l ∷ []), length-append ls (l ∷ [])) in
    let granted : r ≡ true = w.answer ∙ le-leb (length (standing (put p l v))) room long in
    w.after ∙ ap (λ b. cond b (put p l v) p) granted ∙ put_is
