use Rattle.std.proofs.Common.{refl, arith, rules, tests}
use Rattle.std.proofs.lemmas.Grind.{common_steps}
use Rattle.buckets.proofs.Ends.{high, none_handed, end_handed}
use Rattle.buckets.proofs.bucket.ops.BucketsStore.highest.Goals as goal

pub returns-in_err-highest : goal.returns-in_err-highest
returns-in_err-highest c =
    let h = c.in_err-highest.ensures.runs in
    none_handed high _ c.iter.ensures.runs c.iter.ensures.rest c.filter.ensures.runs (λ x r f k. search (rules, tests)) h.0 h.1 h.2 c.args.place.now h.3 _ c.from_residual.ensures

pub returns : goal.returns
returns c =
    let h = c.in_ok-highest.ensures.runs in
    end_handed high _ c.iter.ensures.runs c.iter.ensures.rest c.filter.ensures.runs (λ x r f k. search (rules, tests)) h.0 h.1 h.2 c.args.place.now
    (λ k. k.0.now) (λ x r f k. search (rules, tests)) c.args.self.now.sound.apart c.in_ok-highest.highest (search rules) (grind (arith, common_steps)) _ h.3.1 (λ j k. refl)
