use Rattle.std.proofs.Common.{refl}
use Rattle.groups.specs.Table.{numbers, starts, row, rows, first_row, end_row}
use Rattle.groups.specs.Tabled.{home_in, kinds_in}
use Rattle.lattice.specs.Reduction.{euclid, reduction}
use Rattle.lines.specs.Lines.{line_cells}
use Rattle.examples.proofs.examples_hold.Goals as goal

pub returns : goal.returns
unfolding numbers starts row rows first_row end_row home_in kinds_in euclid reduction line_cells
returns c = (
  (refl, refl),
  (
    (refl, refl),
    (
      (refl, refl),
      (
        (refl, refl),
        (
          (refl, refl, refl),
          (
            (refl, refl, refl),
            (
              (refl, refl, refl),
              (
                (refl, refl, refl),
                (
                  (refl, refl, refl),
                  (
                    (refl, refl, refl),
                    (refl, (refl, (((refl, refl), refl, refl), (((refl, refl), refl, refl), (((refl, refl), refl), (((refl, refl), refl, refl), tt)))))),
                  ),
                ),
              ),
            ),
          ),
        ),
      ),
    ),
  ),
)
