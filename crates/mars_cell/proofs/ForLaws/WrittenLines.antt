-- A load file that was written is read as its warrior, with its numbers by value.
use Rattle.std.proofs.Common.{◌≡◌, pos, refl, ℕ, suc, ◌+◌, ◌-◌, ◌/◌, ◌<◌, ◌≤◌, ◌^◌, Bool, true, false, ◌&&◌, not, List, [], ◌∷◌, ◌++◌, Some, Ok, length, map, sym, ap, ◌∙◌, nat_eq, nat_le, rules, arith, get_or, one-add, decimal, append_assoc, append-nil}
use Rattle.std.specs.Prelude.{codes, All, option_map}
use Rattle.std.specs.List.{list_all, flat_map, starts_with, AllByRecursion}
use Rattle.std.specs.Char.{is_ascii_digit}
use Rattle.std.specs.Str.{str_eq_ignore_ascii_case}
use Rattle.std.proofs.lemmas.List.{length-map}
use Rattle.std.proofs.lemmas.List.Folds.{list_all-append}
use Rattle.std.proofs.lemmas.Bool.{and_parts, le-leb, le-ltb, lt-ltb}
use Rattle.std.proofs.lemmas.Fmt.{decimal_nonempty, first_decimal, length-decimal-le}
use Rattle.mars_cell.specs.Limits.{max_core_size}
use Rattle.mars_cell.specs.declared.instruction.Op.{Op}
use Rattle.mars_cell.specs.declared.instruction.Op.TheVariants as op
use Rattle.mars_cell.specs.declared.instruction.Modifier.{Modifier}
use Rattle.mars_cell.specs.declared.instruction.Modifier.TheVariants as modifier
use Rattle.mars_cell.specs.declared.instruction.Mode.{Mode}
use Rattle.mars_cell.specs.declared.instruction.Mode.TheVariants as mode
use Rattle.mars_cell.specs.declared.instruction.Cell.{Cell}
use Rattle.mars_cell.specs.declared.statements.Statement.{Statement}
use Rattle.mars_cell.specs.declared.statements.Statement.TheVariants as statement
use Rattle.mars_cell.specs.Cells.{FitsCore}
use Rattle.mars_cell.specs.Grammar.{cell_of}
use Rattle.mars_cell.specs.Header.{HeaderValue, header_of, name_of, size_in, size_of, has_version}
use Rattle.mars_cell.specs.Laws.{carried}
use Rattle.mars_cell.specs.Load.{body, cell_in, end_in, line_statement, lines_of, load, only_number, origin_in, statement_of, statements, before_comment, warrior_of}
use Rattle.mars_cell.specs.Numbers.{parse_digits, parse_number}
use Rattle.mars_cell.specs.ParameterFaults.{is_within}
use Rattle.mars_cell.specs.Parts.{begins_word, joins, parts}
use Rattle.mars_cell.specs.Text.{cell_text, number_text, operand_text}
use Rattle.mars_cell.specs.Warriors.{WarriorValue, IsName, IsWarrior}
use Rattle.mars_cell.specs.Words.{op_name, modifier_name, mode_name}
use Rattle.mars_cell.specs.Written.{with_newline, load_lines, load_text, statement_lines}
use Rattle.mars_cell.proofs.FirstLine.{goes_on}
use Rattle.mars_cell.proofs.ForLaws.RoundTrip.{cell_parts, cell_read, decimal_read, digits_part, numeral, parts_nil}
use Rattle.mars_cell.proofs.ForLaws.Values.{carried-same}

-- ---- Lines

-- No byte of the line is an LF.
pub record IsLine (line : List ℕ) : Type 0 where
  pub each : list_all goes_on line ≡ true

-- The byte `b` neither ends a line nor begins a comment.
abbrev pub is_plain : ℕ → Bool
is_plain b = not (nat_eq b 10) && not (nat_eq b 59)

pub record IsPlain (line : List ℕ) : Type 0 where
  pub each : list_all is_plain line ≡ true

no_newline : (b : ℕ) → goes_on b ≡ true → nat_eq b 10 ≡ false
no_newline b e = grind arith

no_comment : (b : ℕ) → is_plain b ≡ true → nat_eq b 59 ≡ false
no_comment b e = grind arith

plain_goes_on : (b : ℕ) → is_plain b ≡ true → goes_on b ≡ true
plain_goes_on b e = grind arith

each_goes_on : (line : List ℕ) → list_all is_plain line ≡ true → list_all goes_on line ≡ true
each_goes_on [] h = refl
each_goes_on (b ∷ line) h = let h' = and_parts (is_plain b) (list_all is_plain line) h in rw (plain_goes_on b h'.0, each_goes_on line h'.1) refl

pub plain_line : {line : List ℕ} → IsPlain line → IsLine line
plain_line {line} h = record { each = each_goes_on line h.each }

lines_of-line : (line bs : List ℕ) → list_all goes_on line ≡ true → lines_of (line ++ 10 ∷ bs) ≡ line ∷ lines_of bs
unfolding lines_of
lines_of-line [] bs h = refl
lines_of-line (b ∷ line) bs h = let h' = and_parts (goes_on b) (list_all goes_on line) h in rw (no_newline b h'.0, lines_of-line line bs h'.1) refl

-- Lines without an LF, each terminated by LF, are split into the same lines.
lines_of-with_newline : (ls : List (List ℕ)) → AllByRecursion IsLine ls → lines_of (flat_map with_newline ls) ≡ ls
unfolding lines_of
lines_of-with_newline [] h = refl
lines_of-with_newline (l ∷ ls) h = rw (append_assoc l (10 ∷ []) (flat_map with_newline ls), lines_of-line l (flat_map with_newline ls) h.0.each, lines_of-with_newline ls h.1) refl

before_comment-plain : (line : List ℕ) → list_all is_plain line ≡ true → before_comment line ≡ line
before_comment-plain [] h = refl
before_comment-plain (b ∷ line) h = let h' = and_parts (is_plain b) (list_all is_plain line) h in rw (no_comment b h'.0, one-add) (ap (λ l. b ∷ l) (before_comment-plain line h'.1))

-- ---- Written lines are plain

digit_is_plain : (b : ℕ) → is_ascii_digit b ≡ true → is_plain b ≡ true
digit_is_plain b e = grind arith

digits_are_plain : (ds : List ℕ) → list_all is_ascii_digit ds ≡ true → list_all is_plain ds ≡ true
digits_are_plain [] h = refl
digits_are_plain (d ∷ ds) h = let h' = and_parts (is_ascii_digit d) (list_all is_ascii_digit ds) h in rw (digit_is_plain d h'.0, digits_are_plain ds h'.1) refl

decimal_is_plain : (n : ℕ) → n < 2 ^ 64 → list_all is_plain (decimal n) ≡ true
decimal_is_plain n h = digits_are_plain (decimal n) (numeral n h).digits

number_is_plain : (m n : ℕ) → n < m → m < 2 ^ 32 → list_all is_plain (number_text m n) ≡ true
number_is_plain m n below small =
    elim (nat_le n (m / 2)) as (λ t. nat_le n (m / 2) ≡ t → list_all is_plain (number_text m n) ≡ true) [
      | true ↦ λ e. rw e (decimal_is_plain n (omega arith))
      | false ↦ λ e. rw e (decimal_is_plain (m - n) (omega arith))
    ] refl

op_is_plain : (o : Op) → list_all is_plain (op_name o) ≡ true
op_is_plain op.Dat = refl
op_is_plain op.Mov = refl
op_is_plain op.Add = refl
op_is_plain op.Sub = refl
op_is_plain op.Mul = refl
op_is_plain op.Div = refl
op_is_plain op.Mod = refl
op_is_plain op.Jmp = refl
op_is_plain op.Jmz = refl
op_is_plain op.Jmn = refl
op_is_plain op.Djn = refl
op_is_plain op.Seq = refl
op_is_plain op.Sne = refl
op_is_plain op.Slt = refl
op_is_plain op.Spl = refl
op_is_plain op.Nop = refl

modifier_is_plain : (o : Modifier) → list_all is_plain (modifier_name o) ≡ true
modifier_is_plain modifier.A = refl
modifier_is_plain modifier.B = refl
modifier_is_plain modifier.Ab = refl
modifier_is_plain modifier.Ba = refl
modifier_is_plain modifier.F = refl
modifier_is_plain modifier.X = refl
modifier_is_plain modifier.I = refl

mode_is_plain : (o : Mode) → list_all is_plain (mode_name o) ≡ true
mode_is_plain mode.Immediate = refl
mode_is_plain mode.Direct = refl
mode_is_plain mode.AIndirect = refl
mode_is_plain mode.BIndirect = refl
mode_is_plain mode.APredecrement = refl
mode_is_plain mode.BPredecrement = refl
mode_is_plain mode.APostincrement = refl
mode_is_plain mode.BPostincrement = refl

append_is_plain : {xs ys : List ℕ} → IsPlain xs → IsPlain ys → IsPlain (xs ++ ys)
append_is_plain {xs} {ys} x y = record { each = rw (list_all-append is_plain xs ys, x.each, y.each) refl }

text_is_plain : (xs : List ℕ) → list_all is_plain xs ≡ true → IsPlain xs
text_is_plain xs e = record { each = e }

operand_is_plain : (m : ℕ) (o : Mode) (n : ℕ) → n < m → m < 2 ^ 32 → IsPlain (operand_text m o n)
operand_is_plain m o n below small = append_is_plain (text_is_plain (mode_name o) (mode_is_plain o)) (text_is_plain (number_text m n) (number_is_plain m n below small))

-- The text of a cell contains no LF and no `;`.
pub cell_is_plain : (m : ℕ) (c : Cell) → m < 2 ^ 32 → FitsCore m c → IsPlain (cell_text m c)
cell_is_plain m c small fits =
    let op_and_dot = append_is_plain (text_is_plain (op_name c.op) (op_is_plain c.op)) (text_is_plain (codes ".") refl) in
    let head = append_is_plain op_and_dot (text_is_plain (modifier_name c.modifier) (modifier_is_plain c.modifier)) in
    let head_and_a = append_is_plain (append_is_plain head (text_is_plain (codes " ") refl)) (operand_is_plain m c.a_mode c.a fits.a small) in
    append_is_plain (append_is_plain head_and_a (text_is_plain (codes ", ") refl)) (operand_is_plain m c.b_mode c.b fits.b small)

pub origin_is_plain : (n : ℕ) → n < 2 ^ 64 → IsPlain (codes "ORG " ++ decimal n)
origin_is_plain n h = append_is_plain (text_is_plain (codes "ORG ") refl) (text_is_plain (decimal n) (decimal_is_plain n h))

-- ---- The statements of the lines

no_origin : (o : Op) → str_eq_ignore_ascii_case (op_name o) (codes "ORG") ≡ false
no_origin op.Dat = refl
no_origin op.Mov = refl
no_origin op.Add = refl
no_origin op.Sub = refl
no_origin op.Mul = refl
no_origin op.Div = refl
no_origin op.Mod = refl
no_origin op.Jmp = refl
no_origin op.Jmz = refl
no_origin op.Jmn = refl
no_origin op.Djn = refl
no_origin op.Seq = refl
no_origin op.Sne = refl
no_origin op.Slt = refl
no_origin op.Spl = refl
no_origin op.Nop = refl

no_end : (o : Op) → str_eq_ignore_ascii_case (op_name o) (codes "END") ≡ false
no_end op.Dat = refl
no_end op.Mov = refl
no_end op.Add = refl
no_end op.Sub = refl
no_end op.Mul = refl
no_end op.Div = refl
no_end op.Mod = refl
no_end op.Jmp = refl
no_end op.Jmz = refl
no_end op.Jmn = refl
no_end op.Djn = refl
no_end op.Seq = refl
no_end op.Sne = refl
no_end op.Slt = refl
no_end op.Spl = refl
no_end op.Nop = refl

-- A line that begins with an opcode states its cell.
statement_of-op : (m size : ℕ) (o : Op) (ps : List (List ℕ)) (c : Cell) → cell_of m size (op_name o ∷ ps) ≡ Some c → statement_of m size (op_name o ∷ ps) ≡ Some (statement.Instruction c)
unfolding statement_of
statement_of-op m size o ps c e = rw (no_origin o, no_end o, e) refl

statement_of-cell : (m size : ℕ) (c : Cell) → m < 2 ^ 32 → FitsCore m c → line_statement m size (cell_text m c) ≡ Some (statement.Instruction (carried m size c))
statement_of-cell m size c small fits =
    let shape = cell_parts m c small fits.a fits.b in
    ap (λ l. statement_of m size (parts l)) (before_comment-plain (cell_text m c) (cell_is_plain m c small fits).each)
    ∙ ap (statement_of m size) shape
    ∙ statement_of-op m size c.op _ (carried m size c) (ap (cell_of m size) (sym shape) ∙ cell_read m size c small fits)

origin_part : (rest : List ℕ) → parts (codes "ORG " ++ rest) ≡ codes "ORG" ∷ parts rest
unfolding parts joins begins_word
origin_part rest = refl

origin_parts : (n : ℕ) → n < 2 ^ 64 → parts (codes "ORG " ++ decimal n) ≡ codes "ORG" ∷ decimal n ∷ []
unfolding begins_word
origin_parts n h = origin_part (decimal n) ∙ ap (λ ps. codes "ORG" ∷ ps) (rw (append-nil, parts_nil) at (digits_part (decimal n) [] (decimal_nonempty n h) (numeral n h).digits refl))

statement_of-org : (m size : ℕ) (p : List ℕ) → statement_of m size (codes "ORG" ∷ p ∷ []) ≡ option_map (λ n. statement.Origin n) (parse_number p)
unfolding statement_of only_number
statement_of-org m size p = refl

statement_of-origin : (m size n : ℕ) → n < 2 ^ 32 → line_statement m size (codes "ORG " ++ decimal n) ≡ Some (statement.Origin (pos n))
statement_of-origin m size n small =
    let wide : n < 2 ^ 64 = omega arith in
    ap (λ l. statement_of m size (parts l)) (before_comment-plain (codes "ORG " ++ decimal n) (origin_is_plain n wide).each)
    ∙ ap (statement_of m size) (origin_parts n wide)
    ∙ statement_of-org m size (decimal n)
    ∙ ap (option_map (λ n. statement.Origin n)) (decimal_read n small)

-- ---- The header

-- A core size is read back, because its digits do not begin with 0.
no_zero_first : (ds : List ℕ) → 48 < get_or ds 0 0 → starts_with nat_eq ds (codes "0") ≡ false
no_zero_first [] h = absurd (omega arith)
no_zero_first (d ∷ ds) h = let other : nat_eq 48 d ≡ false = grind arith in rw other refl

parse_digits-decimal : (n : ℕ) → n ≤ max_core_size → parse_digits (decimal n) ≡ Some n
unfolding parse_digits
parse_digits-decimal n small =
    let d = numeral n (omega arith) in
    let few : length (decimal n) ≤ 18 = length-decimal-le 18 n (omega arith) (omega arith) (omega arith) in
    rw (lt-ltb 0 (length (decimal n)) (decimal_nonempty n (omega arith)), le-leb (length (decimal n)) 18 few, d.digits) (ap Some d.value)

size_in-decimal : (m : ℕ) → 1 ≤ m → m ≤ max_core_size → size_in (codes ";load 2 " ++ decimal m) ≡ Some m
unfolding size_of
size_in-decimal m some most =
    rw (no_zero_first (decimal m) (first_decimal m some (omega arith)), parse_digits-decimal m most, le-leb 1 m some, le-leb m max_core_size most) refl

-- A name is read back, because its bytes are printable.
within : (b : ℕ) → 32 ≤ b → b ≤ 126 → is_within 32 126 b ≡ true
within b low high = grind arith

each_printed : (bs : List ℕ) → All (λ b. (32 ≤ b) × (b ≤ 126)) bs → list_all (is_within 32 126) bs ≡ true
each_printed [] all = refl
each_printed (b ∷ bs) all =
    let here = all 0 b (omega arith) in
    rw (within b here.0 here.1, each_printed bs (λ k d inside. all (suc k) d (omega arith))) refl

name_of-name : (name : List ℕ) → IsName name → name_of name ≡ Some name
unfolding name_of
name_of-name name is = rw (le-leb (length name) 60 is.short, each_printed name is.printed) refl

-- The whole header is read back.
header_of-written : (m : ℕ) (w : WarriorValue) → 1 ≤ m → m ≤ max_core_size → IsWarrior w → header_of (load_lines m w) ≡ Ok (record { written = m; name = w.name; author = w.author })
unfolding header_of
header_of-written m w some most is = rw (size_in-decimal m some most, name_of-name w.name is.name, name_of-name w.author is.author) refl

printed_is_line : (b : ℕ) → is_within 32 126 b ≡ true → goes_on b ≡ true
printed_is_line b e = grind arith

name_is_line : (bs : List ℕ) → list_all (is_within 32 126) bs ≡ true → list_all goes_on bs ≡ true
name_is_line [] h = refl
name_is_line (b ∷ bs) h = let h' = and_parts (is_within 32 126 b) (list_all (is_within 32 126) bs) h in rw (printed_is_line b h'.0, name_is_line bs h'.1) refl

behind_is_line : (word bs : List ℕ) → list_all goes_on word ≡ true → list_all goes_on bs ≡ true → IsLine (word ++ bs)
behind_is_line word bs e h = record { each = rw (list_all-append goes_on word bs, e, h) refl }

pub name_line : (word name : List ℕ) → list_all goes_on word ≡ true → IsName name → IsLine (word ++ name)
name_line word name e is = behind_is_line word name e (name_is_line name (each_printed name is.printed))

pub size_line : (m : ℕ) → m ≤ max_core_size → IsLine (codes ";load 2 " ++ decimal m)
size_line m most = behind_is_line (codes ";load 2 ") (decimal m) refl (each_goes_on (decimal m) (decimal_is_plain m (omega arith)))

-- ---- The whole file

statements-cells : (m size k : ℕ) (cells : List Cell) → m < 2 ^ 32 → AllByRecursion (FitsCore m) cells → statements m size k (map (cell_text m) cells) ≡ Ok (map statement.Instruction (map (carried m size) cells))
unfolding statements
statements-cells m size k [] small all = refl
statements-cells m size k (c ∷ cells) small all = rw (statements, statement_of-cell m size c small all.0, statements-cells m size (k + 1) cells small all.1) refl

cells_of-instructions : (cells : List Cell) → flat_map cell_in (map statement.Instruction cells) ≡ cells
cells_of-instructions [] = refl
cells_of-instructions (c ∷ cells) = ap (λ cs. c ∷ cs) (cells_of-instructions cells)

origins-instructions : (cells : List Cell) → flat_map origin_in (map statement.Instruction cells) ≡ []
origins-instructions [] = refl
origins-instructions (c ∷ cells) = origins-instructions cells

ends-instructions : (cells : List Cell) → flat_map end_in (map statement.Instruction cells) ≡ []
ends-instructions [] = refl
ends-instructions (c ∷ cells) = ends-instructions cells

cell_lines : (m : ℕ) (cells : List Cell) → m < 2 ^ 32 → AllByRecursion (FitsCore m) cells → AllByRecursion IsLine (map (cell_text m) cells)
cell_lines m [] small all = tt
cell_lines m (c ∷ cells) small all = (plain_line (cell_is_plain m c small all.0), cell_lines m cells small all.1)

pub by_recursion : (m : ℕ) (cells : List Cell) → All (FitsCore m) cells → AllByRecursion (FitsCore m) cells
by_recursion m [] all = tt
by_recursion m (c ∷ cells) all = (all 0 c (omega arith), by_recursion m cells (λ k d inside. all (suc k) d (omega arith)))

abbrev written : ℕ → List Cell → List Statement
written start cells = statement.Origin (pos start) ∷ map statement.Instruction cells

statements-written : (m size k : ℕ) (w : WarriorValue) → m < 2 ^ 32 → w.start < 2 ^ 32 → AllByRecursion (FitsCore m) w.cells
    → statements m size k (statement_lines m w) ≡ Ok (written w.start (map (carried m size) w.cells))
unfolding statements
statements-written m size k w small low all = rw (statements, statement_of-origin m size w.start low, statements-cells m size (k + 1) w.cells small all) refl

lines_of-written : (m : ℕ) (w : WarriorValue) → m ≤ max_core_size → w.start < 2 ^ 64 → IsWarrior w → AllByRecursion (FitsCore m) w.cells → lines_of (load_text m w) ≡ load_lines m w
lines_of-written m w most low is all = lines_of-with_newline (load_lines m w)
    (size_line m most, (name_line (codes ";name ") w.name refl is.name, (name_line (codes ";author ") w.author refl is.author, (plain_line (origin_is_plain w.start low), cell_lines m w.cells (omega arith) all))))

warrior_of-written : (h : HeaderValue) (longest start : ℕ) (cells : List Cell) → start < length cells → length cells ≤ longest
    → warrior_of h longest (written start cells) ≡ Ok (record { name = h.name; author = h.author; cells = cells; start = start })
warrior_of-written h longest start cells inside few =
    rw (cells_of-instructions cells, origins-instructions cells, le-ltb longest (length cells) few) (search rules)

body-written : (h : HeaderValue) (size longest k : ℕ) (w : WarriorValue) → h.written < 2 ^ 32 → longest < 2 ^ 32 → w.start < length w.cells → length w.cells ≤ longest → AllByRecursion (FitsCore h.written) w.cells
    → body h size longest k (statement_lines h.written w) ≡ Ok (record { name = h.name; author = h.author; cells = map (carried h.written size) w.cells; start = w.start })
unfolding body
body-written h size longest k w small short inside few all =
    let same = length-map w.cells (carried h.written size) in
    rw (body, statements-written h.written size k w small (omega arith) all) (warrior_of-written h longest w.start (map (carried h.written size) w.cells) (omega (arith, same)) (omega (arith, same)))

has_version-written : (m : ℕ) (w : WarriorValue) → has_version (load_text m w) ≡ true
unfolding has_version
has_version-written m w = refl

some_size : (m : ℕ) (cells : List Cell) → 0 < length cells → All (FitsCore m) cells → 1 ≤ m
some_size m [] some all = absurd (omega arith)
some_size m (c ∷ cells) some all = let fits = all 0 c (omega arith) in let below = fits.a in omega arith

pub load-written : (m size longest : ℕ) (w : WarriorValue) → m ≤ max_core_size → longest < 2 ^ 32 → IsWarrior w → length w.cells ≤ longest → All (FitsCore m) w.cells
    → load size longest (load_text m w) ≡ Ok (record w { cells = map (carried m size) w.cells })
unfolding load
load-written m size longest w most short is few all =
    let inside = is.start in
    let all' = by_recursion m w.cells all in
    rw (load, has_version-written m w, lines_of-written m w most (omega arith) is all', header_of-written m w (some_size m w.cells (omega arith) all) most is)
    (body-written (record { written = m; name = w.name; author = w.author }) size longest 4 w (omega arith) short inside few all')

-- In a core of the same size, carried cells are unchanged.
each_same : (m : ℕ) (cells : List Cell) → AllByRecursion (FitsCore m) cells → map (carried m m) cells ≡ cells
each_same m [] all = refl
each_same m (c ∷ cells) all = rw (carried-same m c all.0, each_same m cells all.1) refl

pub cells-same : (m : ℕ) (w : WarriorValue) → All (FitsCore m) w.cells → record w { cells = map (carried m m) w.cells } ≡ w
cells-same m w all = ap (λ cells. record w { cells = cells }) (each_same m w.cells (by_recursion m w.cells all))
