use Rattle.std.proofs.Common.{◌≡◌, ◌≤◌, None, length, nat_abs, sym, ap, ◌∙◌, subst, refl, arith, rules}
use Rattle.plane.specs.Cells.{AllWithin}
use Rattle.plane.specs.Rectangles.{rectangle_refusal, window_cells}
use Rattle.views.specs.Windows.{header, picture, picture_size, pixels, unless_refused, written_over}
use Rattle.views.proofs.Judging.{rectangle_within, window_passes}
use Rattle.views.proofs.Placing.{Written, written_on}
use Rattle.views.proofs.window.window.Given as given
use Rattle.views.proofs.window.window.Goals as goal
use Rattle.views.proofs.window.window.Goals.{In_ok-window}

-- the rectangle is not refused
fits : (g : given.Over) (c : goal.In_ok-window g) → rectangle_refusal (g.S.Symmetry.meaning c.args.symmetry.now).span c.args.rectangle ≡ None
fits g c = ap (λ n. rectangle_refusal n c.args.rectangle) (sym c.span.ensures) ∙ c.in_ok-window.ensures.0

pub put_pixels-requires-clause-within : goal.put_pixels-requires-clause-within
put_pixels-requires-clause-within g c =
    let span = (g.S.Symmetry.meaning c.args.symmetry.now).span in
    let t = c.in_ok-window.ensures in
    subst (AllWithin span) (λ i. window_cells (sym t.1 i) (nat_abs (sym t.2 i)) (nat_abs (sym t.3 i))) (rectangle_within span c.args.rectangle (fits g (goal.at.put_pixels-requires-clause-within g c).In_ok-window))

pub returns-clause-output : goal.returns-clause-output
returns-clause-output g c =
    let m = g.S.Symmetry.meaning c.args.symmetry.now in
    let b = g.C.Canvas.board c.args.canvas.now in
    let r = c.args.rectangle in
    let w = c.in_ok-window.window in
    let palette = c.args.palette.now in
    let xs = c.args.output.now in
    let t = c.in_ok-window.ensures in
    let long : length palette ≡ 48 = search rules in
    let same : c.in-Ok.palette.now ≡ palette = search rules in
    let size : picture_size w.width w.height ≤ length xs = omega (arith, c.picture_size-size.ensures, c.if-output-size.false) in
    let none = window_passes m.span r (fits g (goal.at.returns-clause-output g c).In_ok-window) (length palette) (length xs) long (subst (λ n. n ≤ length xs) (λ i. picture_size (nat_abs (t.2 i)) (nat_abs (t.3 i))) size) in
    let top : Written xs (header w.width w.height) c.put_header-start.new.output c.put_header-start.result = record { output = c.put_header-start.ensures.output; next = c.put_header-start.ensures.count } in
    let cells = window_cells w.corner w.width w.height in
    let all = written_on xs (header w.width w.height) (pixels m b c.in-Ok.palette.now cells) _ c.put_pixels.new.output _ (length (pixels m b c.in-Ok.palette.now cells)) top c.put_pixels.ensures refl in
    all.output
    ∙ (λ i. written_over (picture m b (same i) (t.1 i) (nat_abs (t.2 i)) (nat_abs (t.3 i))) xs)
    ∙ ap (λ o. unless_refused o xs (written_over (picture m b palette r.corner (nat_abs r.width) (nat_abs r.height)) xs)) (sym none)
