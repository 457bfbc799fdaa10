-- What a table answers.
use Rattle.std.proofs.Common.{◌≡◌, ℕ, ◌<◌, true, false, List, length, sym, refl, ap, ◌∙◌, arith}
use Rattle.std.proofs.lemmas.Bool.{le-leb, lt-leb}
use Rattle.algebra.specs.Poly.{Poly, at, put, standing}
use Rattle.algebra.specs.Gathered.{gather, Absent}
use Rattle.algebra.proofs.Rows.{length_standing}
use Rattle.algebra.proofs.Lengths.{put_nothing, length_put, some_0, some_1}
use Rattle.algebra.proofs.Gathers.{rising_gather, length_gather, at_absent}
use Rattle.store.specs.Answers.{Wrote}
use Rattle.store.specs.Stores.{fits, at_most}
use Rattle.buckets.specs.declared.term.Term.{Term}
use Rattle.buckets.specs.Records.{contents, Sound}
use Rattle.buckets.proofs.Fields.{length_contents}

module _ (xs : List Term) (S v : ℕ) where
  abbrev p : Poly
  p = gather (contents xs)

  pub granted : (ys : List Term) → length ys ≡ length xs → gather (contents ys) ≡ put (gather (contents xs)) S v → Wrote (fits (at_most (length xs))) (gather (contents xs)) S v (gather (contents ys)) true
  granted ys l m = record {
    answer =
        let e = ap length m in
        sym (le-leb (length (standing (put p S v))) (length xs) (omega (arith, length_standing (put p S v), length_gather (contents ys), length_contents ys)));
    after = m;
  }

  -- written under other names of the set and of the number
  pub granted_as : {T w : ℕ} (ys : List Term) → length ys ≡ length xs → T ≡ S → gather (contents ys) ≡ put (gather (contents xs)) T w → w ≡ v
      → Wrote (fits (at_most (length xs))) (gather (contents xs)) S v (gather (contents ys)) true
  granted_as {w} ys l t m e = granted ys l (m ∙ ap (λ T. put p T w) t ∙ ap (put p S) e)

  pub nothing : Absent (contents xs) S → v ≡ 0 → Wrote (fits (at_most (length xs))) (gather (contents xs)) S v (gather (contents xs)) true
  nothing a z = granted xs refl (sym (ap (put p S) z ∙ put_nothing p S (rising_gather (contents xs)) (at_absent (contents xs) S a)))

  pub refused : {count : ℕ} → Sound xs count → Absent (contents xs) S → 0 < v → count ≡ length xs → Wrote (fits (at_most (length xs))) (gather (contents xs)) S v (gather (contents xs)) false
  refused s a some-v f = record {
    answer =
        let c = s.counted in
        sym (lt-leb (length (standing (put p S v))) (length xs)
        (omega (arith, length_standing (put p S v), length_put p S v (rising_gather (contents xs)), some_0 (at p S) (at_absent (contents xs) S a), some_1 v some-v)));
    after = refl;
  }
