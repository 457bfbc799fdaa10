-- One record of a list changed: what each of its fields then lists.
use Rattle.std.proofs.Common.{◌≡◌, ℕ, ◌<◌, List, length, get_or, set, Some, None, Option, sym, refl, ap, ◌∙◌, arith, length-set}
use Rattle.std.proofs.lemmas.List.{get_or-set_same, get_or-set_other, map-set, set-get_or, get_or-map, length-map}
use Rattle.algebra.specs.Gathered.{set_at, number_at}
use Rattle.sets.specs.Numbers.{number}
use Rattle.buckets.specs.declared.term.Term.{Term}
use Rattle.buckets.specs.Records.{content_of, contents, firsts, nexts, spares}

-- the library's lemmas on a list with one element changed
pub ruleset on_set = (length-set, get_or-set_same, get_or-set_other)

-- ---- how many
pub length_contents : (xs : List Term) → length (contents xs) ≡ length xs
length_contents xs = length-map xs content_of

pub length_firsts : (xs : List Term) → length (firsts xs) ≡ length xs
length_firsts xs = length-map xs (λ (x : Term). x.first)

pub length_nexts : (xs : List Term) → length (nexts xs) ≡ length xs
length_nexts xs = length-map xs (λ (x : Term). x.next)

pub length_spares : (xs : List Term) → length (spares xs) ≡ length xs
length_spares xs = length-map xs (λ (x : Term). x.spare)

-- ---- what a record that is read says
module _ (xs : List Term) (i : ℕ) (d : Term) (l : i < length xs) where
  content_at : get_or (contents xs) i (0, 0) ≡ content_of (get_or xs i d)
  content_at = get_or-map content_of xs i d (0, 0) l

  pub set_at_slot : set_at (contents xs) i ≡ number (get_or xs i d).set
  set_at_slot = ap (λ (t : ℕ × ℕ). t.0) content_at

  pub number_at_slot : number_at (contents xs) i ≡ (get_or xs i d).code
  number_at_slot = ap (λ (t : ℕ × ℕ). t.1) content_at

  pub first_at : get_or (firsts xs) i 0 ≡ (get_or xs i d).first
  first_at = get_or-map (λ (x : Term). x.first) xs i d 0 l

  pub next_at : get_or (nexts xs) i 0 ≡ (get_or xs i d).next
  next_at = get_or-map (λ (x : Term). x.next) xs i d 0 l

  pub spare_at : get_or (spares xs) i 0 ≡ (get_or xs i d).spare
  spare_at = get_or-map (λ (x : Term). x.spare) xs i d 0 l

pub ruleset fields = (length_contents, length_firsts, length_nexts, length_spares, set_at_slot, number_at_slot, first_at, next_at, spare_at)

-- ---- a record is changed
pub contents_set : (xs : List Term) (i : ℕ) (y : Term) → contents (set xs i y) ≡ set (contents xs) i (content_of y)
contents_set xs i y = map-set content_of xs i y

pub firsts_set : (xs : List Term) (i : ℕ) (y : Term) → firsts (set xs i y) ≡ set (firsts xs) i y.first
firsts_set xs i y = map-set (λ (x : Term). x.first) xs i y

pub nexts_set : (xs : List Term) (i : ℕ) (y : Term) → nexts (set xs i y) ≡ set (nexts xs) i y.next
nexts_set xs i y = map-set (λ (x : Term). x.next) xs i y

pub spares_set : (xs : List Term) (i : ℕ) (y : Term) → spares (set xs i y) ≡ set (spares xs) i y.spare
spares_set xs i y = map-set (λ (x : Term). x.spare) xs i y

module _ (xs : List Term) (i : ℕ) (y d : Term) (l : i < length xs) where
  pub contents_kept : content_of y ≡ content_of (get_or xs i d) → contents (set xs i y) ≡ contents xs
  contents_kept h = contents_set xs i y ∙ ap (set (contents xs) i) (h ∙ sym (content_at xs i d l)) ∙ set-get_or (contents xs) i (0, 0)

  pub firsts_kept : y.first ≡ (get_or xs i d).first → firsts (set xs i y) ≡ firsts xs
  firsts_kept h = firsts_set xs i y ∙ ap (set (firsts xs) i) (h ∙ sym (first_at xs i d l)) ∙ set-get_or (firsts xs) i 0

  pub nexts_kept : y.next ≡ (get_or xs i d).next → nexts (set xs i y) ≡ nexts xs
  nexts_kept h = nexts_set xs i y ∙ ap (set (nexts xs) i) (h ∙ sym (next_at xs i d l)) ∙ set-get_or (nexts xs) i 0

  pub spares_kept : y.spare ≡ (get_or xs i d).spare → spares (set xs i y) ≡ spares xs
  spares_kept h = spares_set xs i y ∙ ap (set (spares xs) i) (h ∙ sym (spare_at xs i d l)) ∙ set-get_or (spares xs) i 0

pub ruleset changes = (fields, on_set, contents_set, firsts_set, nexts_set, spares_set, contents_kept, firsts_kept, nexts_kept, spares_kept)
