use Rattle.std.proofs.Common.{◌≡◌, [], ◌+◌, ◌%◌, ℕ, refl, ◌∙◌}
use Rattle.std.proofs.KnownBytes.{Appends-nil}
use Rattle.mars_core.specs.State.{State, cell_at}
use Rattle.mars_app.specs.Debugger.Readings.{texts, cell_line, line_at}
use Rattle.mars_app.proofs.Transcripts.Waits.{none_waits}
use Rattle.mars_app.proofs.Transcripts.Texts.{texts-one_more, texts_begun}
use Rattle.mars_app.proofs.debugger.readings.write_cells.Goals as goal

line_there : (s : State) (a i m : ℕ) → m ≡ s.params.core_size → cell_line s.params.core_size ((a + i) % m) (cell_at s.core ((a + i) % m)) ≡ line_at s a i
unfolding line_at
line_there s a i m e = rw e refl

pub loop-i-init : goal.loop-i-init
unfolding texts
loop-i-init g c = rw c.new-pending.ensures (none_waits _ _ [] (Appends-nil _))

pub loop-i-preserved : goal.loop-i-preserved
loop-i-preserved g c =
    let s = c.args.battle.now in
    let size : c.from-core_size.result ≡ s.params.core_size = cc in
    let line : c.cell_line.result.bytes ≡ line_at s c.args.address c.loop-i.i =
    c.cell_line.ensures ∙ line_there s c.args.address c.loop-i.i c.from-core_size.result size in
    let more = c.in-Ok.ensures.ok _ _ c.loop-i.invariant in
    rw (texts-one_more (line_at s c.args.address) c.loop-i.i) (rw line at more)

pub returns-in-Err-clause-err : goal.returns-in-Err-clause-err
returns-in-Err-clause-err g c =
    let s = c.args.battle.now in
    texts_begun (line_at s c.args.address) _ _ c.args.count c.loop-i.i (c.in-Err.ensures.err _ _ c.loop-i.invariant) c.loop-i-test.true
