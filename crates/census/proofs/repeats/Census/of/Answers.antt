use Rattle.std.proofs.Common.{◌≡◌, arith, rules}
use Rattle.plane.specs.Rectangles.{cells_from, window_cells}
use Rattle.census.specs.Census.{origin}
use Rattle.census.proofs.Owning.{counted, counting_none, counting_same, few_cells, near_first, room_more}
use Rattle.census.proofs.repeats.Census.of.Goals as goal

pub loop-at-init : goal.loop-at-init
loop-at-init c =
    let g = c.args.group.now in
    let i = c.into_iter-at-iterator in
    let all : cells_from i.result.window.corner i.result.window.width i.result.window.height i.result.column i.result.row ≡ window_cells origin g.p g.q = search rules in
    counting_none g.group.number g.p g.q g.group.listed g.suited _ all

pub own_kinds-requires : goal.own_kinds-requires
own_kinds-requires c =
    let g = c.args.group.now in
    near_first g.group.number g.p g.q (window_cells origin g.p g.q) c.loop-at.classes c.loop-at.mirrored _ c.in-Some.at _ c.loop-at.invariant c.in-Some.ensures.steps

pub overflow_add-classes : goal.overflow_add-classes
overflow_add-classes c =
    let g = c.args.group.now in
    let m = room_more g.group.number g.p g.q (window_cells origin g.p g.q) c.loop-at.classes c.loop-at.mirrored _ c.in-Some.at _ c.loop-at.invariant c.in-Some.ensures.steps in
    let f = few_cells g.group.number g.p g.q g.group.listed g.suited in
    omega (arith, m, f)

pub overflow_add-mirrored : goal.overflow_add-mirrored
overflow_add-mirrored c =
    let g = c.args.group.now in
    let m = room_more g.group.number g.p g.q (window_cells origin g.p g.q) c.loop-at.classes c.loop-at.mirrored _ c.in-Some.at _ c.loop-at.invariant c.in-Some.ensures.steps in
    let f = few_cells g.group.number g.p g.q g.group.listed g.suited in
    let l = c.loop-at.invariant.fewer in
    omega (arith, m, f, l)

pub loop-at-preserved : goal.loop-at-preserved
loop-at-preserved c =
    let g = c.args.group.now in
    counting_same g.group.number g.p g.q (window_cells origin g.p g.q) c.loop-at.classes c.loop-at.mirrored _ c.in-Some.at _ c.loop-at.invariant c.in-Some.ensures.steps c.in_default.ensures

pub returns : goal.returns
returns c =
    let g = c.args.group.now in
    counted g.group.number g.p g.q g.group.listed g.suited c.loop-at.classes c.loop-at.mirrored _ c.loop-at.invariant c.in-None.ensures.steps.0
