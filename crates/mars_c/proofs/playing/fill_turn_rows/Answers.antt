use Rattle.std.proofs.Common.{◌≡◌, ◌-◌, ◌<◌, ◌∙◌, false, true, arith, length, drop, rules, sym}
use Rattle.std.proofs.lemmas.List.{length-set, take-append-drop}
use Rattle.mars_core.specs.State.{is_over_of}
use Rattle.mars_c.proofs.Played.{over_stays, turn_less, none_recorded, row_more}
use Rattle.mars_c.proofs.playing.fill_turn_rows.Goals as goal

pub returns-then-is_over-clause-rows : goal.returns-then-is_over-clause-rows
returns-then-is_over-clause-rows g c =
    let s = c.loop-i.battle in
    let rows = c.loop-i.rows in
    let over : is_over_of s ≡ true = search rules in
    sym (take-append-drop c.loop-i.i rows) ∙ rw (none_recorded g.R.TurnRow.row_of s (drop c.loop-i.i rows) over) at c.loop-i.invariant.rows

pub returns-then-is_over-clause-battle : goal.returns-then-is_over-clause-battle
returns-then-is_over-clause-battle g c =
    let s = c.loop-i.battle in
    let over : is_over_of s ≡ true = search rules in
    sym (over_stays (length c.args.rows.now - c.loop-i.i) s over) ∙ rw c.loop-i.auto.rows at c.loop-i.invariant.battle

pub loop-i-preserved : goal.loop-i-preserved
loop-i-preserved g c =
    let s = c.loop-i.battle in
    let rows = c.loop-i.rows in
    let i = c.loop-i.i in
    let turn = c.record_turn.ensures in
    let running : is_over_of s ≡ false = search rules in
    let inside : i < length rows = omega arith in
    record {
      rows = rw (turn.row, turn.battle) (row_more g.R.TurnRow.row_of s rows i inside running ∙ c.loop-i.invariant.rows);
      battle = rw (length-set rows i c.record_turn.new.row, turn.battle) (sym (turn_less (length rows) i s inside running) ∙ c.loop-i.invariant.battle);
    }
