-- The rules for a group's number and periods.
use Rattle.std.specs.Prelude.{ℕ, ◌%◌, Bool, not, ◌&&◌, ◌||◌, pos, ◌==◌, nat_le}
use Rattle.std.specs.Ordering.{int_eq}
use Rattle.ints.specs.Ranges.{from_one_to}
use Rattle.groups.specs.declared.position.Position.{Position}
use Rattle.groups.specs.Lists.{some}
use Rattle.groups.specs.Table.{rows}

-- a group's number
abbrev pub known : ℕ → Bool
known number = from_one_to 17 number

abbrev pub period : ℕ → Bool
period p = from_one_to 128 p

abbrev pub shifts_x : Position → Bool
shifts_x r = not (int_eq r.s (pos 0))

abbrev pub shifts_y : Position → Bool
shifts_y r = not (int_eq r.t (pos 0))

-- where the condition holds, so must the other
abbrev pub needs : Bool → Bool → Bool
needs condition b = not condition || b

-- both are periods; the groups from 10 on need equal ones; p is even where a position shifts x by a half, q where one shifts y
abbrev pub allowed : ℕ → ℕ → ℕ → Bool
allowed number p q =
    period p
    && (period q
    && (needs (nat_le 10 number) (p == q)
    && (needs (some shifts_x (rows number)) (p % 2 == 0)
    && needs (some shifts_y (rows number)) (q % 2 == 0))))
