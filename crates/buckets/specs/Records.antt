-- What lent records say: the sets and numbers of the slots, and the links. Assumes nothing.
--     home n S                         the bucket of the set S among n
--     contents xs                      the sets and numbers; `content_of` those of one record
--     firsts xs, nexts xs, spares xs   the links
--     Keeps n ts fs ns ss count        what a table of n slots keeps of its lists, `count` of the slots not being free
--     Sound xs count                   what a table over the records xs keeps
--     TakenBy xs ys i S v x            from xs to ys the slot i was given to the set S with the number v and linked to x, and nothing else changed
--     Released xs ys i k               from xs to ys the slot i was freed and listed as the spare k, and nothing else changed
--     Relinked xs ys b p x             from xs to ys the place p of the bucket b was linked to x, and nothing else changed
--     Found ts S i                     the slot i has the set S
use Rattle.std.specs.Prelude.{◌≡◌, ℕ, ◌-◌, ◌%◌, ◌<◌, ◌≤◌, List, map, length, Option, slice_set}
use Rattle.algebra.specs.Rows.{Bounded}
use Rattle.algebra.specs.Gathered.{Slots, set_at, number_at, gather, Apart}
use Rattle.sets.specs.Numbers.{number}
use Rattle.sets.specs.Hash.{hash}
use Rattle.buckets.specs.declared.term.Term.{Term}
use Rattle.buckets.specs.Chains.{Firsts, Nexts, Spares, Distinct, relinked_firsts, relinked_nexts}

abbrev pub home : ℕ → ℕ → ℕ
home n S = hash S % n

abbrev pub content_of : Term → ℕ × ℕ
content_of x = (number x.set, x.code)

abbrev pub contents : List Term → Slots
contents xs = map content_of xs

abbrev pub firsts : List Term → List ℕ
firsts xs = map (λ (x : Term). x.first) xs

abbrev pub nexts : List Term → List ℕ
nexts xs = map (λ (x : Term). x.next) xs

abbrev pub spares : List Term → List ℕ
spares xs = map (λ (x : Term). x.spare) xs

pub record Keeps (n : ℕ) (ts : Slots) (fs ns ss : List ℕ) (count : ℕ) : Type 0 where
  pub few : n ≤ 65536
  pub counted : count ≡ length (gather ts)
  pub apart : Apart ts
  pub bounded : Bounded ts
  pub first : Firsts (home n) ts fs
  pub next : Nexts (home n) ts ns
  pub spare : Spares ts ss (n - count)
  pub distinct : Distinct ss (n - count)

abbrev pub Sound : List Term → ℕ → Type 0
Sound xs count = Keeps (length xs) (contents xs) (firsts xs) (nexts xs) (spares xs) count

pub record TakenBy (xs ys : List Term) (i S v x : ℕ) : Type 0 where
  pub long : length ys ≡ length xs
  pub contents : contents ys ≡ slice_set (contents xs) i (S, v)
  pub firsts : firsts ys ≡ firsts xs
  pub nexts : nexts ys ≡ slice_set (nexts xs) i x
  pub spares : spares ys ≡ spares xs

pub record Released (xs ys : List Term) (i k : ℕ) : Type 0 where
  pub long : length ys ≡ length xs
  pub contents : contents ys ≡ slice_set (contents xs) i (set_at (contents xs) i, 0)
  pub firsts : firsts ys ≡ firsts xs
  pub nexts : nexts ys ≡ nexts xs
  pub spares : spares ys ≡ slice_set (spares xs) k i

pub record Relinked (xs ys : List Term) (b : ℕ) (p : Option ℕ) (x : ℕ) : Type 0 where
  pub long : length ys ≡ length xs
  pub contents : contents ys ≡ contents xs
  pub firsts : firsts ys ≡ relinked_firsts (firsts xs) b p x
  pub nexts : nexts ys ≡ relinked_nexts (nexts xs) p x
  pub spares : spares ys ≡ spares xs

pub record Found (ts : Slots) (S i : ℕ) : Type 0 where
  pub within : i < length ts
  pub stands : 0 < number_at ts i
  pub is : set_at ts i ≡ S
