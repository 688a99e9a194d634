-- What the kinds of a cell do to an ink.
--     all_odd   every operation that carries the cell home is odd: the home has the counterpart of the cell's ink
--     neutral   operations of both parities carry the cell home: it can only have an ink that is its own counterpart
use Rattle.std.specs.Prelude.{ℕ, Bool, true, false, not, ◌&&◌, ◌||◌, ◌==◌}
use Rattle.plane.specs.declared.kinds.Kinds.{Kinds}
use Rattle.canvas.specs.Inks.{counterpart}

abbrev pub any_even : Kinds → Bool
any_even k = k.even_proper || k.even_improper

abbrev pub any_odd : Kinds → Bool
any_odd k = k.odd_proper || k.odd_improper

abbrev pub all_odd : Kinds → Bool
all_odd k = not (any_even k)

abbrev pub neutral : Kinds → Bool
neutral k = any_even k && any_odd k

-- an ink, or its counterpart
abbrev pub tinted : Bool → ℕ → ℕ
tinted true ink = counterpart ink
tinted false ink = ink

-- an ink that a cell of these kinds cannot have: the cell is neutral and the ink is not its own counterpart
abbrev pub clash : Kinds → ℕ → Bool
clash k ink = neutral k && not (counterpart ink == ink)
