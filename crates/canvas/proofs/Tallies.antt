-- Tallies: what a change of one value does to the number of those that are not 0.
use Rattle.std.proofs.Common.{◌≡◌, ℕ, zero, suc, ◌+◌, ◌<◌, ◌≤◌, ◌≢◌, ◌⊎◌, sym, refl, ap, ◌∙◌, inl, inr, arith}
use Rattle.std.proofs.lemmas.Bool.{cases_eq}
use Rattle.std.proofs.lemmas.Bool.Decides.{nat_tests}
use Rattle.canvas.specs.Board.{held_after}
use Rattle.canvas.specs.Tally.{mark, tally}

pub mark_le : (v : ℕ) → mark v ≤ 1
mark_le v = grind (arith, nat_tests)

pub mark_zero : (v : ℕ) → v ≡ 0 → mark v ≡ 0
mark_zero v e = grind (arith, nat_tests)

pub mark_some : (v : ℕ) → (v ≡ 0 → ⊥) → mark v ≡ 1
mark_some v e = grind (arith, nat_tests)

pub tally_le : (f : ℕ → ℕ) (n : ℕ) → tally f n ≤ n
tally_le f zero = omega arith
tally_le f (suc n) = omega (arith, tally_le f n, mark_le (f n))

pub tally_zero : (f : ℕ → ℕ) (n : ℕ) → ((k : ℕ) → k < n → f k ≡ 0) → tally f n ≡ 0
tally_zero f zero h = refl
tally_zero f (suc n) h =
    let t : tally f n ≡ 0 = tally_zero f n (λ k l. h k (omega arith)) in
    let m : mark (f n) ≡ 0 = mark_zero (f n) (h n (omega arith)) in
    omega arith

pub tally-same : (f g : ℕ → ℕ) (n : ℕ) → ((k : ℕ) → k < n → g k ≡ f k) → tally g n ≡ tally f n
tally-same f g zero h = refl
tally-same f g (suc n) h =
    let t : tally g n ≡ tally f n = tally-same f g n (λ k l. h k (omega arith)) in
    let m : mark (g n) ≡ mark (f n) = ap mark (h n (omega arith)) in
    omega arith

tally_step : (f g : ℕ → ℕ) (i n : ℕ) → ((k : ℕ) → k ≢ i → g k ≡ f k) → i < suc n → (i < n → tally g n + mark (f i) ≡ tally f n + mark (g i)) → (i ≡ n) ⊎ (i ≡ n → ⊥) → tally g (suc n) + mark (f i) ≡ tally f (suc n) + mark (g i)
tally_step f g i n h l old (inl e) =
    let t : tally g n ≡ tally f n = tally-same f g n (λ k b. h k (λ s. omega arith)) in
    let a : mark (f i) ≡ mark (f n) = ap (λ k. mark (f k)) e in
    let b : mark (g i) ≡ mark (g n) = ap (λ k. mark (g k)) e in
    omega arith
tally_step f g i n h l old (inr e) =
    let t : tally g n + mark (f i) ≡ tally f n + mark (g i) = old (omega arith) in
    let m : mark (g n) ≡ mark (f n) = ap mark (h n (λ s. e (sym s))) in
    omega arith

pub tally_change : (f g : ℕ → ℕ) (i n : ℕ) → ((k : ℕ) → k ≢ i → g k ≡ f k) → i < n → tally g n + mark (f i) ≡ tally f n + mark (g i)
tally_change f g i zero h l = absurd (omega arith)
tally_change f g i (suc n) h l = tally_step f g i n h l (λ b. tally_change f g i n h b) (cases_eq i n)

-- where one is 0 there is room
pub tally_room : (f : ℕ → ℕ) (i n : ℕ) → i < n → f i ≡ 0 → tally f n < n
tally_room f i zero l z = omega arith
tally_room f i (suc n) l z = go (tally_room f i n) (cases_eq i n)
  where
    go : (i < n → f i ≡ 0 → tally f n < n) → (i ≡ n) ⊎ (i ≡ n → ⊥) → tally f n + mark (f n) < suc n
    go old (inl e) = let m : mark (f n) ≡ 0 = mark_zero (f n) (ap f (sym e) ∙ z) in omega (arith, tally_le f n)
    go old (inr e) = let b : tally f n < n = old (omega arith) z in omega (arith, mark_le (f n))

-- the count after a change, from the equation of the tallies
pub counts : (old new m n : ℕ) → m + mark old ≡ n + mark new → m ≡ held_after old new n
counts old new m n h = grind (arith, nat_tests)
