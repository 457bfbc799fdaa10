-- A number joined n times by an associative operation with a unit, among the numbers that P holds of. Assumes nothing.
use Rattle.std.proofs.Common.{◌≡◌, ℕ, zero, suc, ◌+◌, ◌*◌, ◌/◌, ◌%◌, sym, refl, ap, ◌∙◌, subst, ap₂, suc-add, zero-add, arith}
use Rattle.algebra.specs.Repeated.{repeated, Monoid}

module _ {P : ℕ → Type 0} {op : ℕ → ℕ → ℕ} {unit : ℕ} (m : Monoid P op unit) where
  pub repeated_in : (n c : ℕ) → P c → P (repeated op unit n c)
  repeated_in zero c h = m.unit_in
  repeated_in (suc n) c h = m.op_in c (repeated op unit n c) h (repeated_in n c h)

  pub repeated_add : (i j c : ℕ) → P c → repeated op unit (i + j) c ≡ op (repeated op unit i c) (repeated op unit j c)
  repeated_add zero j c h = ap (λ (n : ℕ). repeated op unit n c) (zero-add j) ∙ sym (m.left (repeated op unit j c) (repeated_in j c h))
  repeated_add (suc i) j c h =
      ap (λ (n : ℕ). repeated op unit n c) (suc-add i j)
      ∙ ap (op c) (repeated_add i j c h)
      ∙ sym (m.assoc c (repeated op unit i c) (repeated op unit j c) h (repeated_in i c h) (repeated_in j c h))

  -- twice as often is as often the double
  repeated_double : (n c : ℕ) → P c → repeated op unit (n * 2) c ≡ repeated op unit n (op c c)
  repeated_double zero c h = refl
  repeated_double (suc n) c h =
      let e : suc n * 2 ≡ suc (suc (n * 2)) = omega arith in
      ap (λ (i : ℕ). repeated op unit i c) e
      ∙ sym (m.assoc c c (repeated op unit (n * 2) c) h h (repeated_in (n * 2) c h))
      ∙ ap (op (op c c)) (repeated_double n c h)

  -- the lowest binary digit of n is taken off
  even_turn : (n c : ℕ) → P c → n % 2 ≡ 0 → repeated op unit (n / 2) (op c c) ≡ repeated op unit n c
  even_turn n c h z =
      let e : n / 2 * 2 ≡ n = omega arith in
      sym (repeated_double (n / 2) c h) ∙ ap (λ (i : ℕ). repeated op unit i c) e

  odd_turn : (n s c : ℕ) → P s → P c → n % 2 ≡ 1 → op (op s c) (repeated op unit (n / 2) (op c c)) ≡ op s (repeated op unit n c)
  odd_turn n s c g h z =
      let e : suc (n / 2 * 2) ≡ n = omega arith in
      m.assoc s c (repeated op unit (n / 2) (op c c)) g h (repeated_in (n / 2) (op c c) (m.op_in c c h h))
      ∙ ap (λ (x : ℕ). op s (op c x)) (sym (repeated_double (n / 2) c h))
      ∙ ap (λ (i : ℕ). op s (repeated op unit i c)) e

-- Doubling: `done` and what `rest` times `double` still adds make n times c
pub record Doubling (P : ℕ → Type 0) (op : ℕ → ℕ → ℕ) (unit n c done double rest : ℕ) : Type 0 where
  pub done_in : P done
  pub double_in : P double
  pub whole : op done (repeated op unit rest double) ≡ repeated op unit n c

module _ {P : ℕ → Type 0} {op : ℕ → ℕ → ℕ} {unit : ℕ} (m : Monoid P op unit) {n c : ℕ} where
  pub doubling_starts : P c → Doubling P op unit n c unit c n
  doubling_starts h = record { done_in = m.unit_in; double_in = h; whole = m.left (repeated op unit n c) (repeated_in m n c h) }

  pub doubling_odd : {done double rest done' double' : ℕ} → Doubling P op unit n c done double rest → rest % 2 ≡ 1
      → done' ≡ op done double → double' ≡ op double double → Doubling P op unit n c done' double' (rest / 2)
  doubling_odd {done} {double} {rest} {done'} {double'} d z e f = record {
    done_in = subst P (sym e) (m.op_in done double d.done_in d.double_in);
    double_in = subst P (sym f) (m.op_in double double d.double_in d.double_in);
    whole =
        ap₂ (λ (x y : ℕ). op x (repeated op unit (rest / 2) y)) e f ∙ odd_turn m rest done double d.done_in d.double_in z ∙ d.whole;
  }

  pub doubling_even : {done double rest done' double' : ℕ} → Doubling P op unit n c done double rest → (rest % 2 ≡ 1 → ⊥)
      → done' ≡ done → double' ≡ op double double → Doubling P op unit n c done' double' (rest / 2)
  doubling_even {done} {double} {rest} {done'} {double'} d z e f = record {
    done_in = subst P (sym e) d.done_in;
    double_in = subst P (sym f) (m.op_in double double d.double_in d.double_in);
    whole =
        ap₂ (λ (x y : ℕ). op x (repeated op unit (rest / 2) y)) e f
        ∙ ap (op done) (even_turn m rest double d.double_in (omega (arith, z)))
        ∙ d.whole;
  }

  pub doubling_ends : {done double rest : ℕ} → Doubling P op unit n c done double rest → rest ≡ 0 → done ≡ repeated op unit n c
  doubling_ends {done} {double} {rest} d z =
      sym (m.right done d.done_in) ∙ ap (λ (i : ℕ). op done (repeated op unit i double)) (sym z) ∙ d.whole
