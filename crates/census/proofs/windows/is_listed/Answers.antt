use Rattle.std.proofs.Common.{◌≡◌, length, drop, sym, ap, ◌∙◌, arith}
use lib.Seq.{drop-length}
use Rattle.plane.specs.Cells.{same}
use Rattle.groups.specs.Lists.{some}
use Rattle.census.proofs.windows.is_listed.Goals as goal

pub returns : goal.returns
returns c =
    let hs = c.args.homes.now in
    let end : c.loop-other.other-index ≡ length hs = omega arith in
    sym (ap (some (same c.args.home)) (ap (λ n. drop n hs) end ∙ drop-length hs)) ∙ c.loop-other.invariant
