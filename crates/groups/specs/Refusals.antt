-- The refusals of a tabled group: the number of each, and when each comes.
use Rattle.std.specs.Prelude.{ℕ, cond, Some, None, Option}
use Rattle.groups.specs.declared.rules.GroupRefused.{GroupRefused}
use Rattle.groups.specs.declared.rules.GroupRefused.TheVariants.{UnknownGroup, WrongPeriods}
use Rattle.groups.specs.Rules.{known, allowed}

abbrev pub group_number : GroupRefused → ℕ
group_number UnknownGroup = 11
group_number WrongPeriods = 12

-- an unknown group first, then periods against the rules
abbrev pub refusal : ℕ → ℕ → ℕ → Option GroupRefused
refusal number p q = cond (known number) (cond (allowed number p q) None (Some WrongPeriods)) (Some UnknownGroup)
