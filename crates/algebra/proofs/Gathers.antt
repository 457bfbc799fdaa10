-- Slots that stand in any order: reading one, changing one, the best of them.
use Rattle.std.proofs.Common.{◌≡◌, ℕ, zero, suc, ◌<◌, ◌≤◌, ◌≢◌, [], ◌∷◌, length, get_or, set, Some, sym, refl, ap, ◌∙◌, subst, inl, inr, arith, length-set}
use Rattle.std.proofs.lemmas.List.{get_or-set_same, get_or-set_other}
use Rattle.std.specs.List.{AllByRecursion as All}
use Rattle.std.proofs.lemmas.Bool.{eq-eqb, ne_eqb, cases_eq, cases_lt}
use Rattle.algebra.specs.Poly.{Poly, at, put, lowest, highest, Rising}
use Rattle.algebra.specs.Gathered.{Slots, set_at, number_at, gather, Absent, Apart}
use Rattle.algebra.proofs.Polys.{at_put, rising_put, same_from_at}
use Rattle.algebra.proofs.Lengths.{length_put_le, lowest_least, highest_most, all_put}

gather_free_one : (t : ℕ × ℕ) (ts : Slots) → t.1 ≡ 0 → gather (t ∷ ts) ≡ gather ts
gather_free_one t ts z = rw (eq-eqb t.1 0 z)

gather_one : (t : ℕ × ℕ) (ts : Slots) → (t.1 ≡ 0 → ⊥) → gather (t ∷ ts) ≡ put (gather ts) t.0 t.1
gather_one t ts z = rw (ne_eqb t.1 0 z)

-- what holds of slots in both cases of the first
gather_cases : (P : Poly → Type 0) (t : ℕ × ℕ) (ts : Slots) → P (gather ts) → ((t.1 ≡ 0 → ⊥) → P (put (gather ts) t.0 t.1)) → P (gather (t ∷ ts))
gather_cases P t ts free some =
    elim (cases_eq t.1 0) [ inl z ↦ rw (gather_free_one t ts z) free | inr z ↦ rw (gather_one t ts z) (some z) ]

pub rising_gather : (ts : Slots) → Rising (gather ts)
rising_gather [] = tt
rising_gather (t ∷ ts) = gather_cases Rising t ts (rising_gather ts) (λ _. rising_put (gather ts) t.0 t.1 (rising_gather ts))

pub length_gather : (ts : Slots) → length (gather ts) ≤ length ts
length_gather [] = omega arith
length_gather (t ∷ ts) =
    gather_cases (λ p. length p ≤ length (t ∷ ts)) t ts (omega (arith, length_gather ts))
    (λ _. omega (arith, length_gather ts, length_put_le (gather ts) t.0 t.1 (rising_gather ts)))

pub gather_all : (P : ℕ × ℕ → Type 0) (ts : Slots) → ((i : ℕ) → i < length ts → 0 < number_at ts i → P (set_at ts i, number_at ts i)) → All P (gather ts)
gather_all P [] h = tt
gather_all P (t ∷ ts) h =
    let rest = gather_all P ts (λ i l. h (suc i) (omega arith)) in
    gather_cases (All P) t ts rest (λ z. all_put P (gather ts) t.0 t.1 (h 0 (omega arith) (omega arith)) rest)

-- ---- reading
front_same : (t : ℕ × ℕ) (ts : Slots) (q : ℕ) → 0 < t.1 → t.0 ≡ q → at (gather (t ∷ ts)) q ≡ t.1
front_same t ts q h e = rw (gather_one t ts (λ z. omega arith), at_put (gather ts) t.0 t.1 (rising_gather ts) q, eq-eqb t.0 q e)

front_other : (t : ℕ × ℕ) (ts : Slots) (q : ℕ) → (0 < t.1 → t.0 ≡ q → ⊥) → at (gather (t ∷ ts)) q ≡ at (gather ts) q
front_other t ts q not =
    gather_cases (λ p. at p q ≡ at (gather ts) q) t ts refl
    (λ z. rw (at_put (gather ts) t.0 t.1 (rising_gather ts) q, ne_eqb t.0 q (not (omega arith))))

pub at_absent : (ts : Slots) (q : ℕ) → Absent ts q → at (gather ts) q ≡ 0
at_absent [] q h = refl
at_absent (t ∷ ts) q h = front_other t ts q (h 0 (omega arith)) ∙ at_absent ts q (λ i l. h (suc i) (omega arith))

apart_tail : (t : ℕ × ℕ) (ts : Slots) → Apart (t ∷ ts) → Apart ts
apart_tail t ts a i j c =
    let o = c.order in let w = c.within in
    a (suc i) (suc j) (record { order = omega arith; within = omega arith; first = c.first; second = c.second; same = c.same })

pub at_stands : (ts : Slots) (q i : ℕ) → Apart ts → i < length ts → 0 < number_at ts i → set_at ts i ≡ q → at (gather ts) q ≡ number_at ts i
at_stands [] q i a l h e = absurd (omega arith)
at_stands (t ∷ ts) q zero a l h e = front_same t ts q h e
at_stands (t ∷ ts) q (suc i) a l h e =
    front_other t ts q (λ some is. a 0 (suc i) (record { order = omega arith; within = l; first = some; second = h; same = is ∙ sym e }))
    ∙ at_stands ts q i (apart_tail t ts a) (omega arith) h e

-- ---- one slot changed
-- the slot i may be given to S: it is free or has S, and no other slot has S
pub record Vacant (ts : Slots) (S i : ℕ) : Type 0 where
  pub within : i < length ts
  pub here : 0 < number_at ts i → set_at ts i ≡ S
  pub apart : (j : ℕ) → j < length ts → (j ≡ i → ⊥) → 0 < number_at ts j → set_at ts j ≡ S → ⊥

pub vacant_free : (ts : Slots) (S i : ℕ) → Absent ts S → i < length ts → number_at ts i ≡ 0 → Vacant ts S i
vacant_free ts S i a l z = record { within = l; here = λ h. absurd (omega arith); apart = λ j m _ h e. a j m h e }

pub vacant_found : (ts : Slots) (S i : ℕ) → Apart ts → i < length ts → 0 < number_at ts i → set_at ts i ≡ S → Vacant ts S i
vacant_found ts S i a l h e = record {
  within = l;
  here = λ _. e;
  apart = λ j m n g f. elim (cases_lt j i) [
    | inl b ↦ a j i (record { order = b; within = l; first = g; second = h; same = f ∙ sym e })
    | inr b ↦ a i j (record { order = omega (arith, λ (q : j ≡ i). n q); within = m; first = h; second = g; same = e ∙ sym f })
  ];
}

at_changed : (ts : Slots) (i : ℕ) (y : ℕ × ℕ) (q : ℕ) → i < length ts → (0 < number_at ts i → set_at ts i ≡ q → ⊥) → (y.0 ≡ q → ⊥) → at (gather (set ts i y)) q ≡ at (gather ts) q
at_changed [] i y q l a b = absurd (omega arith)
at_changed (t ∷ ts) zero y q l a b = front_other y ts q (λ _ e. b e) ∙ sym (front_other t ts q a)
at_changed (t ∷ ts) (suc i) y q l a b =
    elim (cases_eq t.1 0) [
      | inl z ↦ front_other t (set ts i y) q (λ h _. omega arith) ∙ at_changed ts i y q (omega arith) a b ∙ sym (front_other t ts q (λ h _. omega arith))
      | inr z ↦ elim (cases_eq t.0 q) [
        | inl e ↦ front_same t (set ts i y) q (omega arith) e ∙ sym (front_same t ts q (omega arith) e)
        | inr e ↦ front_other t (set ts i y) q (λ _ f. e f) ∙ at_changed ts i y q (omega arith) a b ∙ sym (front_other t ts q (λ _ f. e f))
      ]
    ]

module _ (ts : Slots) (i : ℕ) (y : ℕ × ℕ) (v : Vacant ts y.0 i) where
  abbrev us : Slots
  us = set ts i y

  long : length us ≡ length ts
  long = length-set ts i y

  pub slot_same : (j : ℕ) → j ≡ i → get_or us j (0, 0) ≡ y
  slot_same j e = ap (λ k. get_or us k (0, 0)) e ∙ get_or-set_same ts i y (0, 0) v.within

  pub slot_other : (j : ℕ) → (j ≡ i → ⊥) → get_or us j (0, 0) ≡ get_or ts j (0, 0)
  slot_other j e = let ne : j ≢ i = e in get_or-set_other ts i j y (0, 0) ne

  number_other : (j : ℕ) → (j ≡ i → ⊥) → 0 < number_at us j → 0 < number_at ts j
  number_other j e h = subst (λ (t : ℕ × ℕ). 0 < t.1) (slot_other j e) h

  set_other : (j : ℕ) → (j ≡ i → ⊥) → set_at us j ≡ set_at ts j
  set_other j e = ap (λ (t : ℕ × ℕ). t.0) (slot_other j e)

  set_same : (j : ℕ) → j ≡ i → set_at us j ≡ y.0
  set_same j e = ap (λ (t : ℕ × ℕ). t.0) (slot_same j e)

  pub apart_set : Apart ts → Apart us
  apart_set a j k c =
      let o = c.order in let w = c.within in let l = long in
      elim (cases_eq j i) [
        | inl e ↦ v.apart k (omega arith) (λ f. omega arith) (number_other k (λ f. omega arith) c.second) (sym (set_other k (λ f. omega arith)) ∙ sym c.same ∙ set_same j e)
        | inr e ↦ elim (cases_eq k i) [
          | inl f ↦ v.apart j (omega arith) e (number_other j e c.first) (sym (set_other j e) ∙ c.same ∙ set_same k f)
          | inr f ↦ a j k (record { order = o; within = omega arith; first = number_other j e c.first; second = number_other k f c.second; same = sym (set_other j e) ∙ c.same ∙ set_other k f })
        ]
      ]

  here_now : (q : ℕ) → y.0 ≡ q → Apart ts → at (gather us) q ≡ y.1
  here_now q e a =
      elim (cases_eq y.1 0) [
        | inl z ↦
            at_absent us q (λ j l h is.
            elim (cases_eq j i) [
              | inl f ↦ let w = subst (λ (t : ℕ × ℕ). 0 < t.1) (slot_same j f) h in omega arith
              | inr f ↦ v.apart j (omega (arith, long)) f (number_other j f h) (sym (set_other j f) ∙ is ∙ sym e)
            ])
            ∙ sym z
        | inr z ↦
            at_stands us q i (apart_set a) (omega (arith, long, v.within)) (subst (λ (t : ℕ × ℕ). 0 < t.1) (sym (slot_same i refl)) (omega arith)) (set_same i refl ∙ e)
            ∙ ap (λ (t : ℕ × ℕ). t.1) (slot_same i refl)
      ]

  -- the slot i given to a set means a write at that set
  pub gather_set : Apart ts → gather us ≡ put (gather ts) y.0 y.1
  gather_set a =
      same_from_at (gather us) (put (gather ts) y.0 y.1) (rising_gather us) (rising_put (gather ts) y.0 y.1 (rising_gather ts))
      (λ q. elim (cases_eq y.0 q) [
        | inl e ↦ here_now q e a ∙ sym (at_put (gather ts) y.0 y.1 (rising_gather ts) q ∙ rw (eq-eqb y.0 q e))
        | inr e ↦
            at_changed ts i y q v.within (λ h is. e (sym (v.here h) ∙ is)) e
            ∙ sym (at_put (gather ts) y.0 y.1 (rising_gather ts) q ∙ rw (ne_eqb y.0 q e))
      ])

-- ---- none stands
pub gather_none : (ts : Slots) → ((i : ℕ) → i < length ts → number_at ts i ≡ 0) → gather ts ≡ []
gather_none [] h = refl
gather_none (t ∷ ts) h = gather_free_one t ts (h 0 (omega arith)) ∙ gather_none ts (λ i l. h (suc i) (omega arith))

-- ---- the best of the slots
-- a set that is read has a slot
slot_bound : (ts : Slots) (q : ℕ) (P : ℕ → Type 0) → ((i : ℕ) → i < length ts → 0 < number_at ts i → P (set_at ts i)) → (P q → ⊥) → at (gather ts) q ≡ 0
slot_bound ts q P h n = at_absent ts q (λ i l g e. n (subst P e (h i l g)))

pub highest_slot : (ts : Slots) (i : ℕ) → Apart ts → i < length ts → 0 < number_at ts i → ((j : ℕ) → j < length ts → 0 < number_at ts j → set_at ts j ≤ set_at ts i) → highest (gather ts) ≡ Some (set_at ts i, number_at ts i)
highest_slot ts i a l h most =
    let e = at_stands ts (set_at ts i) i a l h refl in
    highest_most (gather ts) (set_at ts i) (rising_gather ts) (omega arith)
    (λ R g. elim (cases_lt (set_at ts i) R) [ inl b ↦ absurd (omega (arith, slot_bound ts R (λ x. x ≤ set_at ts i) most (λ c. omega arith))) | inr b ↦ b ])
    ∙ ap (λ n. Some (set_at ts i, n)) e

pub lowest_slot : (ts : Slots) (i : ℕ) → Apart ts → i < length ts → 0 < number_at ts i → ((j : ℕ) → j < length ts → 0 < number_at ts j → set_at ts i ≤ set_at ts j) → lowest (gather ts) ≡ Some (set_at ts i, number_at ts i)
lowest_slot ts i a l h least =
    let e = at_stands ts (set_at ts i) i a l h refl in
    lowest_least (gather ts) (set_at ts i) (rising_gather ts) (omega arith)
    (λ R g. elim (cases_lt R (set_at ts i)) [ inl b ↦ absurd (omega (arith, slot_bound ts R (λ x. set_at ts i ≤ x) least (λ c. omega arith))) | inr b ↦ b ])
    ∙ ap (λ n. Some (set_at ts i, n)) e
