use Rattle.std.proofs.Common.{[], ◌∷◌, ap, ◌∙◌, if◌then◌else◌}
use Rattle.mars_core.specs.Code.Marks.{pointed_writes, with_marks}
use Rattle.mars_core.specs.Marks.{marks_of}
use Rattle.mars_core.specs.Touched.{pointed_addresses}
use Rattle.mars_core.proofs.Marks.{marked_so, marks_so}
use Rattle.mars_core.proofs.machine.marks.mark_turn.Goals as goal

pub returns : goal.returns
returns g c = λ core is at.
    let p = c.args.params.now in
    let pc = c.args.pc in
    let i = c.args.instruction in
    let o = c.args.operands in
    let first = marks_of c.args.marks.now in
    let for_a = c.mark_pointed.ensures.marks ∙ ap (with_marks [] (pointed_writes p pc i.a_mode i.a) (pointed_addresses p pc i.a_mode i.a)) c.mark_executed.ensures.marks in
    let a_read = c.mark_touched.ensures.marks ∙ ap (with_marks [] [] (o.a_read ∷ [])) for_a in
    let for_b = c.mark_pointed-2.ensures.marks ∙ ap (with_marks [] (pointed_writes p pc i.b_mode i.b) (pointed_addresses p pc i.b_mode i.b)) a_read in
    let b_read = c.mark_touched-2.ensures.marks ∙ ap (with_marks [] [] (o.b_read ∷ [])) for_b in
    c.mark_target.ensures.marks
    ∙ ap (with_marks [] (if o.written then o.b_write ∷ [] else []) (o.b_write ∷ [])) b_read
    ∙ ap (λ j. marked_so p pc j o first) is
    ∙ marks_so p core pc o at first
