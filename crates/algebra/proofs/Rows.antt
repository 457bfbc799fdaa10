-- The facts of a polynomial's list by places are those of its form; what reading and writing do at the place that a search gives.
use Rattle.std.proofs.Common.{◌≡◌, ℕ, zero, suc, ◌^◌, ◌<◌, ◌≤◌, List, [], ◌∷◌, ◌++◌, map, length, take, drop, sym, refl, ap, ◌∙◌, arith}
use Rattle.std.specs.List.{AllByRecursion as All}
use Rattle.std.proofs.lemmas.List.{length-map, length-take-le}
use Rattle.std.proofs.lemmas.Bool.{eq-eqb, ne_eqb}
use Rattle.algebra.specs.Poly.{Poly, at, front, put, standing, Above, Rising}
use Rattle.algebra.specs.Rows.{set_at, number_at, Sorted, Nonzero, Bounded, StandsAt, FallsAt}
use Rattle.algebra.proofs.Polys.{put_below, put_here, put_above, put_cases}

-- ---- by places and by form
pub above_at : (p : Poly) (S : ℕ) → Above S p → (k : ℕ) → k < length p → S < set_at p k
above_at [] S h k l = absurd (omega arith)
above_at (t ∷ p) S h zero l = h.0
above_at (t ∷ p) S h (suc k) l = above_at p S h.1 k (omega arith)

pub above_from : (p : Poly) (S : ℕ) → ((k : ℕ) → k < length p → S < set_at p k) → Above S p
above_from [] S h = tt
above_from (t ∷ p) S h = (h 0 (omega arith), above_from p S (λ k l. h (suc k) (omega arith)))

pub sorted_tail : (t : ℕ × ℕ) (p : Poly) → Sorted (t ∷ p) → Sorted p
sorted_tail t p h i l = h (suc i) (omega arith)

pub sorted_first : (t : ℕ × ℕ) (p : Poly) → Sorted (t ∷ p) → (k : ℕ) → k < length p → t.0 < set_at p k
sorted_first t p h zero l = h 0 (omega arith)
sorted_first t p h (suc k) l = omega (arith, sorted_first t p h k (omega arith), h (suc k) (omega arith))

pub sorted_places : (p : Poly) → Sorted p → (i j : ℕ) → i < j → j < length p → set_at p i < set_at p j
sorted_places [] h i j l m = absurd (omega arith)
sorted_places (t ∷ p) h i zero l m = absurd (omega arith)
sorted_places (t ∷ p) h zero (suc j) l m = sorted_first t p h j (omega arith)
sorted_places (t ∷ p) h (suc i) (suc j) l m = sorted_places p (sorted_tail t p h) i j (omega arith) (omega arith)

pub rising_from : (p : Poly) → Sorted p → Nonzero p → Rising p
rising_from [] h n = tt
rising_from (t ∷ p) h n = (n 0 (omega arith), above_from p t.0 (sorted_first t p h), rising_from p (sorted_tail t p h) (λ k l. n (suc k) (omega arith)))

pub sorted_from : (p : Poly) → Rising p → Sorted p
sorted_from [] h i l = absurd (omega arith)
sorted_from (t ∷ []) h zero l = absurd (omega arith)
sorted_from (t ∷ (u ∷ p)) h zero l = h.1.0
sorted_from (t ∷ p) h (suc i) l = sorted_from p h.2 i (omega arith)

pub nonzero_from : (p : Poly) → Rising p → Nonzero p
nonzero_from [] h i l = absurd (omega arith)
nonzero_from (t ∷ p) h zero l = h.0
nonzero_from (t ∷ p) h (suc i) l = nonzero_from p h.2 i (omega arith)

-- ---- a write keeps the numbers bounded
bounded_tail : (t : ℕ × ℕ) (p : Poly) → Bounded (t ∷ p) → Bounded p
bounded_tail t p h i l = h (suc i) (omega arith)

bounded_cons : (t : ℕ × ℕ) (p : Poly) → t.1 < 2 ^ 32 → Bounded p → Bounded (t ∷ p)
bounded_cons t p b h zero l = b
bounded_cons t p b h (suc i) l = h i (omega arith)

bounded_front : (p : Poly) (S v : ℕ) → v < 2 ^ 32 → Bounded p → Bounded (front S v p)
bounded_front p S zero b h = h
bounded_front p S (suc v) b h = bounded_cons (S, suc v) p b h

pub bounded_put : (p : Poly) (S v : ℕ) → v < 2 ^ 32 → Bounded p → Bounded (put p S v)
bounded_put [] S v b h = bounded_front [] S v b h
bounded_put (t ∷ p) S v b h =
    put_cases Bounded t p S v (λ _. bounded_front p S v b (bounded_tail t p h)) (λ _. bounded_front (t ∷ p) S v b h)
    (λ _. bounded_cons t (put p S v) (h 0 (omega arith)) (bounded_put p S v b (bounded_tail t p h)))

-- sets below a bound and bounded numbers, for each term at once
pub all_sized : (p : Poly) (n : ℕ) → All (λ (t : ℕ × ℕ). t.0 < n) p → Bounded p → All (λ (t : ℕ × ℕ). (t.0 < n) × (t.1 < 2 ^ 32)) p
all_sized [] n a b = tt
all_sized (t ∷ p) n a b = ((a.0, b 0 (omega arith)), all_sized p n a.1 (bounded_tail t p b))

-- ---- at the place that a search gives
stands_tail : (t : ℕ × ℕ) (p : Poly) (S i : ℕ) → StandsAt (t ∷ p) S (suc i) → StandsAt p S i
stands_tail t p S i h = let w = h.within in record { within = omega arith; is = h.is }

falls_tail : (t : ℕ × ℕ) (p : Poly) (S i : ℕ) → FallsAt (t ∷ p) S (suc i) → FallsAt p S i
falls_tail t p S i h =
    let w = h.within in
    record { within = omega arith; below = λ k l. h.below (suc k) (omega arith); above = λ k l m. h.above (suc k) (omega arith) (omega arith) }

pub read_stands : (p : Poly) (S i : ℕ) → Sorted p → StandsAt p S i → at p S ≡ number_at p i
read_stands [] S i up h = let w = h.within in absurd (omega arith)
read_stands (t ∷ p) S zero up h = rw (eq-eqb t.0 S h.is)
read_stands (t ∷ p) S (suc i) up h =
    let w = h.within in let e = h.is in let f = sorted_first t p up i (omega arith) in
    rw (ne_eqb t.0 S (λ q. omega arith)) (read_stands p S i (sorted_tail t p up) (stands_tail t p S i h))

pub read_falls : (p : Poly) (S i : ℕ) → FallsAt p S i → at p S ≡ 0
read_falls [] S i h = refl
read_falls (t ∷ p) S zero h =
    let f = h.above 0 (omega arith) (omega arith) in
    rw (ne_eqb t.0 S (λ q. omega arith))
    (read_falls p S zero (record { within = omega arith; below = λ k l. absurd (omega arith); above = λ k l m. h.above (suc k) (omega arith) (omega arith) }))
read_falls (t ∷ p) S (suc i) h =
    let f = h.below 0 (omega arith) in
    rw (ne_eqb t.0 S (λ q. omega arith)) (read_falls p S i (falls_tail t p S i h))

pub put_stands : (p : Poly) (S v i : ℕ) → Sorted p → StandsAt p S i → put p S v ≡ take i p ++ front S v (drop (suc i) p)
put_stands [] S v i up h = let w = h.within in absurd (omega arith)
put_stands (t ∷ p) S v zero up h = put_here t p S v (sym h.is)
put_stands (t ∷ p) S v (suc i) up h =
    let w = h.within in let e = h.is in let f = sorted_first t p up i (omega arith) in
    put_above t p S v (omega arith) ∙ ap (λ q. t ∷ q) (put_stands p S v i (sorted_tail t p up) (stands_tail t p S i h))

pub put_falls : (p : Poly) (S v i : ℕ) → FallsAt p S i → put p S v ≡ take i p ++ front S v (drop i p)
put_falls [] S v zero h = refl
put_falls [] S v (suc i) h = let w = h.within in absurd (omega arith)
put_falls (t ∷ p) S v zero h = put_below t p S v (h.above 0 (omega arith) (omega arith))
put_falls (t ∷ p) S v (suc i) h = put_above t p S v (h.below 0 (omega arith)) ∙ ap (λ q. t ∷ q) (put_falls p S v i (falls_tail t p S i h))

pub front_some : (S v : ℕ) (p : Poly) → (v ≡ 0 → ⊥) → front S v p ≡ (S, v) ∷ p
front_some S zero p h = absurd (h refl)
front_some S (suc v) p h = refl

-- ---- lengths
pub length_standing : (p : Poly) → length (standing p) ≡ length p
length_standing p = length-map p (λ (t : ℕ × ℕ). t.0)

pub length_first : {X : Type 0} (f : X → ℕ × ℕ) (xs : List X) (n : ℕ) → n ≤ length xs → length (map f (take n xs)) ≡ n
length_first f xs n h = length-map (take n xs) f ∙ length-take-le n xs h
