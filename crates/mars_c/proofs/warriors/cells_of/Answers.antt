use Rattle.std.proofs.Common.{◌≡◌, ◌∙◌, [], ◌∷◌, ◌++◌, Some, ap, get_or, rules, sym}
use Rattle.std.proofs.lemmas.List.Elements.{All-push}
use Rattle.std.proofs.lemmas.Option.{slice_get-get_or}
use Rattle.mars_cell.specs.Cells.{FitsCore}
use Rattle.mars_c.specs.Cells.{plain_cell}
use Rattle.mars_c.specs.declared.cells.MarsCell.{MarsCell}
use Rattle.mars_c.proofs.Entered.{are_cells, cells_more}
use Rattle.mars_c.proofs.warriors.cells_of.Goals as goal

abbrev none : MarsCell
none = record { op = 0; modifier = 0; a_mode = 0; b_mode = 0; a = 0; b = 0 }

pub loop-i-preserved : goal.loop-i-preserved
loop-i-preserved c =
    let pushed : c.push.new.self.items ≡ c.loop-i.cells.items ++ c.in-Some.cell ∷ [] = search rules in
    rw pushed (record {
      cells = cells_more c.loop-i.cells.items c.in-Some.cell c.args.numbers.now c.loop-i.i none c.loop-i-test.true c.loop-i.invariant.cells (search rules);
      fits = All-push (FitsCore c.args.core_size) c.loop-i.cells.items c.in-Some.cell c.loop-i.invariant.fits (search rules);
    })

pub returns-in_default-cell_of-clause-refused : goal.returns-in_default-cell_of-clause-refused
returns-in_default-cell_of-clause-refused c = (
  are_cells c.args.core_size c.loop-i.cells.items _ c.loop-i.invariant.cells c.loop-i.invariant.fits,
  (get_or c.args.numbers.now c.loop-i.i none, slice_get-get_or c.args.numbers.now c.loop-i.i none c.loop-i-test.true, search rules),
)

pub returns-then-cell-core_size-clause-refused : goal.returns-then-cell-core_size-clause-refused
returns-then-cell-core_size-clause-refused c = (
  are_cells c.args.core_size c.loop-i.cells.items _ c.loop-i.invariant.cells c.loop-i.invariant.fits,
  (
    c.in-Some.cell,
    let here : plain_cell c.in-Some.cell ≡ get_or c.args.numbers.now c.loop-i.i none = search rules in
        slice_get-get_or c.args.numbers.now c.loop-i.i none c.loop-i-test.true ∙ ap Some (sym here),
    search rules,
  ),
)
