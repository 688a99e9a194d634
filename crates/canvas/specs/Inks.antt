-- The counterpart of an ink.
--     counterpart   the ink that an ink is exchanged with; most inks are paired, the others are their own
use Rattle.std.specs.Prelude.{◌≡◌, ℕ, ◌+◌, ◌-◌, ◌*◌, ◌%◌, ◌<◌, ◌≤◌, cond, ◌&&◌, ◌==◌, nat_le}

-- the most that an ink may be
abbrev pub top_ink : ℕ
top_ink = 15

abbrev pub counterpart : ℕ → ℕ
counterpart ink = cond (nat_le 1 ink && nat_le ink 14) (cond (ink % 2 == 1) (ink + 1) (ink - 1)) ink

-- the seven pairs, and the inks that are their own
pub record Pairing (f : ℕ → ℕ) : Type 0 where
  pub up : (k : ℕ) → k < 7 → f (2 * k + 1) ≡ 2 * k + 2
  pub down : (k : ℕ) → k < 7 → f (2 * k + 2) ≡ 2 * k + 1
  pub bare : f 0 ≡ 0
  pub above : (ink : ℕ) → 15 ≤ ink → f ink ≡ ink
