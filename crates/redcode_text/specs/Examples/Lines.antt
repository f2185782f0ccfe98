-- Examples: EQU names and their lines, END, operations, what counts as an instruction, a line or a token, positions of
-- tokens and operations, names, and limits.
use Rattle.std.specs.Prelude.{◌≡◌, ℕ, zero, suc, ◌+◌, List, [], ◌∷◌, ◌++◌, map, replicate, Option, None, Some, Ok, Err, codes, decimal, option_map, refl}
use Rattle.std.specs.Fmt.{digits}
use Rattle.redcode_text.specs.declared.fault.TextProblem.TheVariants.{BadToken, Duplicate, EquDepth, TooLong}
use Rattle.redcode_text.specs.Expression.{value_of, tree_within}
use Rattle.redcode_text.specs.Source.{tree_of}
use Rattle.redcode_text.specs.Expansion.{expansion, flat, nothing_read}
use Rattle.redcode_text.specs.Examples.Expansion.{N, ShownLine, fault, line, line_count, lines, predefined, text}

-- Whitespace may precede the colon after a name.
pub colon_behind_blanks : lines (codes "x : EQU 5" ∷ codes "x" ∷ []) ≡ Ok (line 2 [] [] (N 5 ∷ []) ∷ [])
unfolding expansion value_of tree_within digits
colon_behind_blanks = refl

-- A FOR line, a ROF line and an ordinary line end the definition of an EQU name.
pub equ_lines_stand_together :
    (lines (codes "x EQU 1" ∷ codes "FOR 1" ∷ codes " EQU 2" ∷ codes "ROF" ∷ []) ≡ fault 3 BadToken)
    × (lines (codes "FOR 1" ∷ codes "x EQU 1" ∷ codes "ROF" ∷ codes " EQU 2" ∷ []) ≡ fault 4 BadToken)
    × (lines (codes "x EQU 1" ∷ codes "NOP" ∷ codes " EQU 2" ∷ []) ≡ fault 3 BadToken)
unfolding expansion value_of tree_within digits
equ_lines_stand_together = (refl, refl, refl)

pub label_is_no_equ_name : lines (codes "x NOP" ∷ codes "x EQU 1" ∷ []) ≡ fault 2 Duplicate
unfolding expansion value_of tree_within digits
label_is_no_equ_name = refl

-- Labels are put before the first line of an EQU name's definition, and the tokens after the name are put after the
-- last line.
pub lines_take_the_place_of_the_name : lines (codes "x EQU NOP" ∷ codes " EQU DAT" ∷ codes "a x 5" ∷ [])
    ≡ Ok (line 3 (codes "a" ∷ []) (codes "NOP") [] ∷ line 3 [] (codes "DAT") (N 5 ∷ []) ∷ [])
unfolding expansion value_of tree_within digits
lines_take_the_place_of_the_name = refl

-- END stops reading, also inside a loop, and also if it comes from EQU.
pub nothing_is_read_after_end :
    (lines (codes "FOR 2" ∷ codes "NOP" ∷ codes "END" ∷ codes "ROF" ∷ codes "NOP" ∷ []) ≡ Ok (line 2 [] (codes "NOP") [] ∷ line 3 [] (codes "END") [] ∷ []))
    × (lines (codes "x EQU END" ∷ codes " EQU NOP" ∷ codes "x" ∷ codes "NOP" ∷ []) ≡ Ok (line 3 [] (codes "END") [] ∷ []))
unfolding expansion value_of tree_within digits
nothing_is_read_after_end = (refl, refl)

-- Lines of one word each, numbered from `number` on.
abbrev each_alone : ℕ → List (List ℕ) → List ShownLine
each_alone number [] = []
each_alone number (word ∷ words) = line number [] word [] ∷ each_alone (number + 1) words

abbrev operations : List (List ℕ)
operations =
    codes "DAT" ∷ codes "MOV" ∷ codes "ADD" ∷ codes "SUB" ∷ codes "MUL" ∷ codes "DIV" ∷ codes "MOD" ∷ codes "JMP" ∷ codes "JMZ" ∷ codes "JMN" ∷ codes "DJN" ∷ codes "SEQ" ∷ codes "SNE" ∷ codes "SLT" ∷ codes "SPL" ∷ codes "NOP" ∷ codes "CMP" ∷ codes "ORG" ∷ codes "LDP" ∷ codes "STP" ∷ codes "PIN" ∷ []

-- All opcodes, CMP, ORG, and three operations that the assembler does not know.
pub operations_are_no_labels : lines operations ≡ Ok (each_alone 1 operations)
unfolding expansion value_of tree_within digits
operations_are_no_labels = refl

-- The number of instructions before each assert.
abbrev pub instructions_before : List (List ℕ) → List ℕ
unfolding expansion
instructions_before ls = elim (expansion predefined (text ls)) [ Ok st ↦ map (λ a. a.current_line) st.asserts | Err e ↦ [] ]

-- ORG and a label on a line of its own are not instructions. A number on a line of its own is an instruction.
pub instructions_are_counted : instructions_before (codes "ORG 0" ∷ codes "a" ∷ codes ";assert 1" ∷ codes "NOP" ∷ codes "5" ∷ codes ";assert 1" ∷ []) ≡ 0 ∷ 2 ∷ []
unfolding expansion value_of tree_within digits
instructions_are_counted = refl

-- The number of lines and tokens of a source that are counted.
abbrev counted : List (List ℕ) → ℕ × ℕ
counted ls = elim (flat predefined (tree_of (text ls)) nothing_read) [ Ok st ↦ (st.lines_read, st.tokens_read) | Err e ↦ (0, 0) ]

-- EQU, FOR and ROF lines count. A line in a loop counts in each iteration. The lines of an EQU name that is used as an
-- operation count in addition to the line that uses the name.
pub lines_and_tokens_are_counted : counted (codes "x EQU NOP 1" ∷ codes " EQU DAT" ∷ codes "FOR 2" ∷ codes "x" ∷ codes "ROF" ∷ []) ≡ (10, 17)
unfolding value_of tree_within
lines_and_tokens_are_counted = refl

-- One line too many is reported before any other error of the line.
pub lines_are_limited : flat predefined (tree_of (text (codes "FOR 1" ∷ []))) (record nothing_read { lines_read = 65536 }) ≡ Err (record { line = 1; problem = TooLong; token = None })
lines_are_limited = refl

-- For each line, the line numbers of the tokens after its operation.
abbrev pub lines_of_tokens : List (List ℕ) → List (List ℕ)
unfolding expansion
lines_of_tokens ls = elim (expansion predefined (text ls)) [ Ok st ↦ map (λ l. map (λ t. t.line) l.rest) st.lines | Err e ↦ [] ]

-- A token that comes from EQU has the number of the line that uses the name.
pub tokens_are_of_the_line_of_the_use : lines_of_tokens (codes "x EQU NOP 1" ∷ codes "x , 2" ∷ []) ≡ (2 ∷ 2 ∷ 2 ∷ []) ∷ []
unfolding expansion value_of tree_within digits
tokens_are_of_the_line_of_the_use = refl

-- For each line, the offsets of the first byte of its `operation_span` and of the byte after the last one.
abbrev pub operation_spans : List (List ℕ) → List (Option (ℕ × ℕ))
unfolding expansion
operation_spans ls = elim (expansion predefined (text ls)) [ Ok st ↦ map (λ l. option_map (λ span. (span.from, span.to)) l.operation_span) st.lines | Err e ↦ [] ]

-- An operation, the last of the labels, nothing before the first token, and an operation that comes from EQU.
pub operations_have_places : operation_spans (codes "a NOP 1" ∷ codes "b: c 5" ∷ codes "5" ∷ codes "x EQU DAT" ∷ codes "d x" ∷ []) ≡ Some (2, 5) ∷ Some (11, 12) ∷ None ∷ Some (23, 26) ∷ []
unfolding expansion value_of tree_within digits
operations_have_places = refl

-- The name that a source with the lines `ls` gives.
abbrev pub named : List (List ℕ) → List ℕ
unfolding expansion
named ls = elim (expansion predefined (text ls)) [ Ok st ↦ st.name | Err e ↦ [] ]

-- A byte that is not printable becomes `?`, and at most 60 bytes are used.
pub names_are_cleaned :
    (named (codes ";name a\tb\r" ∷ []) ≡ codes "a?b")
    × (named ((codes ";name " ++ replicate 61 120) ∷ []) ≡ replicate 60 120)
unfolding expansion value_of tree_within digits
names_are_cleaned = (refl, refl)

-- A NOP inside `n` nested loops of one iteration each.
abbrev nested : ℕ → List (List ℕ)
nested n = replicate n (codes "FOR 1") ++ codes "NOP" ∷ replicate n (codes "ROF")

-- One open loop too many is reported before an error in its count.
pub open_loops_are_limited :
    (line_count (nested 32) ≡ 1)
    × (lines (nested 33) ≡ fault 33 TooLong)
    × (lines (replicate 32 (codes "FOR 1") ++ codes "FOR -1" ∷ replicate 33 (codes "ROF")) ≡ fault 33 TooLong)
unfolding expansion value_of tree_within digits
open_loops_are_limited = (refl, refl, refl)

-- As many EQU lines as given: c1 is 1, and each other name is defined as the previous one.
abbrev chain : ℕ → List (List ℕ)
chain zero = []
chain (suc zero) = codes "c1 EQU 1" ∷ []
chain (suc (suc n)) = chain (suc n) ++ (codes "c" ++ decimal (n + 2) ++ codes " EQU c" ++ decimal (n + 1)) ∷ []

abbrev counted_by_chain : ℕ → List (List ℕ)
counted_by_chain n = chain n ++ (codes "FOR c" ++ decimal n) ∷ codes "NOP" ∷ codes "ROF" ∷ []

-- Names in the definition of a name are replaced in turn, up to 32 deep.
pub replacements_nest : (line_count (counted_by_chain 32) ≡ 1) × (lines (counted_by_chain 33) ≡ fault 34 EquDepth)
unfolding expansion value_of tree_within digits
replacements_nest = (refl, refl)
