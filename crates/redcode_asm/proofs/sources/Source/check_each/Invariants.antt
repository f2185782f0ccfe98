use Rattle.std.proofs.Common.{◌≡◌, drop, map}
use Rattle.redcode_text.specs.Views.{assert_of, predefined_of}
use Rattle.redcode_asm.specs.Assembly.{asserts_hold}
use Rattle.redcode_asm.proofs.sources.Source.check_each.Given as goal

abbrev pub invariant-loop-assert : goal.invariant-loop-assert
invariant-loop-assert l = asserts_hold (predefined_of l.self.predefined.now) l.self.program.now (map assert_of (drop l.assert-index l.asserts))
    ≡ asserts_hold (predefined_of l.self.predefined.now) l.self.program.now (map assert_of l.asserts)
