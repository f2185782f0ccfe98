use Rattle.std.proofs.Common.{◌∙◌, sym}
use Rattle.redcode_text.specs.Code.SourceLoops.{loops_of}
use Rattle.redcode_text.proofs.Joins.{joined-none}
use Rattle.redcode_text.proofs.lexer.words.read_word.Goals as goal

pub returns-then-not-contains-clause-value : goal.returns-then-not-contains-clause-value
returns-then-not-contains-clause-value c =
    rw (joined-none (loops_of c.args.names.now) c.args.word.now (sym c.contains.ensures.value ∙ c.if-not-contains.true)) c.joined_word.ensures.value
