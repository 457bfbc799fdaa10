-- The walk along a chain lists the slots of a bucket.
use Rattle.std.proofs.Common.{tests, ◌≡◌, ℕ, zero, suc, ◌+◌, ◌-◌, ◌<◌, ◌≤◌, true, false, eqb, ltb, List, [], ◌∷◌, length, get_or, sym, refl, ap, ◌∙◌, subst, ap₂, inl, inr, arith}
use Rattle.std.proofs.lemmas.Bool.{cases_lt, lt-ltb, le-ltb, eq-eqb, and_from, cond-true, cond-false}
use Rattle.algebra.proofs.Spans.{span, span_none, span_next}
use Rattle.algebra.proofs.Gathers.{at_stands, at_absent}
use Rattle.algebra.specs.Gathered.{set_at, number_at}
use Rattle.buckets.specs.declared.term.Term.{Term}
use Rattle.buckets.specs.Chains.{Member}
use Rattle.buckets.specs.Records.{home, contents, firsts, nexts, Sound}
use Rattle.buckets.specs.Spread.{walk, lies, Spread}
use Rattle.buckets.proofs.Fields.{length_contents}
use Rattle.buckets.specs.Chains.{Leads}

module _ (xs : List Term) (count : ℕ) (s : Sound xs count) (b : ℕ) where
  long : length (contents xs) ≡ length xs
  long = length_contents xs

  -- a slot that lies in the bucket is a member of it
  member : (from k : ℕ) → from ≤ k → k < length xs → lies xs b k ≡ true → Member (home (length xs)) (contents xs) b from k
  member from k f l t = grind (arith, tests, long)

  before : (from i k : ℕ) → Leads (home (length xs)) (contents xs) b from i → from ≤ k → k < length xs → k < i → lies xs b k ≡ false
  before from i k L f l g = grind (arith, member from k f l, L.2 k)

  -- the walk from where a link leads lists what is left of the bucket
  walked : (steps from i : ℕ) → Leads (home (length xs)) (contents xs) b from i → from ≤ length xs → length xs ≤ i + steps → walk xs steps i ≡ span (lies xs b) from (length xs - from)
  walked zero from i L f e =
      sym (span_none (lies xs b) from (length xs - from) (λ k a l. before from i k L a (omega arith) (omega arith)))
  walked (suc steps) from i L f e =
      elim (cases_lt i (length xs)) [
        | inl l ↦
            let here = L.1 (omega (arith, long)) in
            let t : lies xs b i ≡ true = and_from (ltb 0 (number_at (contents xs) i)) (eqb (home (length xs) (set_at (contents xs) i)) b)
            (lt-ltb 0 (number_at (contents xs) i) here.0) (eq-eqb (home (length xs) (set_at (contents xs) i)) b here.1) in
            let N = s.next i (record { within = omega (arith, long); stands = here.0 }) in
            let M : Leads (home (length xs)) (contents xs) b (suc i) (get_or (nexts xs) i 0) = subst (λ c. Leads (home (length xs)) (contents xs) c (suc i) (get_or (nexts xs) i 0)) here.1 N in
            let o : suc i ≡ i + 1 = omega arith in
            let w : length xs - suc i ≡ from + (length xs - from) - (i + 1) = omega (arith, L.0) in
            cond-true (ltb i (length xs)) (i ∷ walk xs steps (get_or (nexts xs) i 0)) [] (lt-ltb i (length xs) l)
            ∙ ap (λ ks. i ∷ ks) (walked steps (suc i) (get_or (nexts xs) i 0) M (omega arith) (omega (arith, M.0)) ∙ ap₂ (span (lies xs b)) o w)
            ∙ sym (span_next (lies xs b) from (length xs - from) i L.0 (omega (arith, L.0)) t (λ j a g. before from i j L a (omega arith) g))
        | inr l ↦
            cond-false (ltb i (length xs)) (i ∷ walk xs steps (get_or (nexts xs) i 0)) [] (le-ltb i (length xs) l)
            ∙ sym (span_none (lies xs b) from (length xs - from) (λ k a m. before from i k L a (omega arith) (omega arith)))
      ]

pub spread : (xs : List Term) (count : ℕ) → Sound xs count → Spread xs
spread xs count s = record {
  once = s.apart;
  numbers = λ k t. at_stands (contents xs) (set_at (contents xs) k) k s.apart t.within t.stands refl;
  others = λ S a. at_absent (contents xs) S a;
  chains = λ b l. walked xs count s b (length xs) 0 (get_or (firsts xs) b 0) (s.first b (omega (arith, length_contents xs))) (omega arith) (omega arith) ∙ ap (span (lies xs b) 0) (omega arith);
}
