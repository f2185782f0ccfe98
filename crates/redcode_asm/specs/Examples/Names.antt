-- Examples: names that may be replaced by other names.
use Rattle.std.specs.Prelude.{codes, refl}
use Rattle.mars_cell.specs.Words.{op_of, modifier_of}
use Rattle.redcode_text.specs.Lines.{Predefined}
use Rattle.redcode_asm.specs.Assembly.{predefined}
use Rattle.redcode_asm.specs.Examples.Warriors.{parameters}
use Rattle.redcode_asm.specs.Laws.{SaysTheSame}

abbrev ps : Predefined
ps = predefined (parameters 8000) 2 3

-- A name without a meaning of its own, such as a label, may be replaced by any other such name. The case of opcodes,
-- modifiers and pseudo-opcodes is ignored, and CMP is SEQ.
pub free_names : SaysTheSame ps (codes "loop") (codes "start") × SaysTheSame ps (codes "mov") (codes "MOV") × SaysTheSame ps (codes "x") (codes "X")
    × SaysTheSame ps (codes "org") (codes "Org") × SaysTheSame ps (codes "cmp") (codes "seq")
unfolding op_of modifier_of
free_names = (
  record { opcode = refl; modifier = refl; org = refl; end = refl; value = λ n. refl },
  record { opcode = refl; modifier = refl; org = refl; end = refl; value = λ n. refl },
  record { opcode = refl; modifier = refl; org = refl; end = refl; value = λ n. refl },
  record { opcode = refl; modifier = refl; org = refl; end = refl; value = λ n. refl },
  record { opcode = refl; modifier = refl; org = refl; end = refl; value = λ n. refl },
)

-- An opcode, a modifier, ORG, END and a predefined name may not be replaced by a name with another meaning.
pub names_that_say_something : (SaysTheSame ps (codes "mov") (codes "loop") → ⊥) × (SaysTheSame ps (codes "mov") (codes "add") → ⊥)
    × (SaysTheSame ps (codes "ab") (codes "ba") → ⊥) × (SaysTheSame ps (codes "end") (codes "loop") → ⊥) × (SaysTheSame ps (codes "org") (codes "end") → ⊥)
    × (SaysTheSame ps (codes "ROUNDS") (codes "WARRIORS") → ⊥) × (SaysTheSame ps (codes "CURLINE") (codes "loop") → ⊥)
unfolding op_of modifier_of
names_that_say_something = (
  λ s. cc (s.opcode),
  λ s. cc (s.opcode),
  λ s. cc (s.modifier),
  λ s. cc (s.end),
  λ s. cc (s.end),
  λ s. cc (s.value 0),
  λ s. cc (s.value 0),
)
