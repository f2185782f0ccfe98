-- The load file of an assembled warrior is read as that warrior.
use Rattle.std.proofs.Common.{◌≡◌, ◌∙◌, refl, ap, subst, ℕ, ◌<◌, ◌≤◌, ℤ, pos, negsuc, List, [], ◌∷◌, length, drop, All, Bool, true, false, cond, nat_lt, Option, Some, None, Result, Ok, Err, arith}
use Rattle.std.proofs.lemmas.List.{length-drop}
use Rattle.std.proofs.lemmas.List.Elements.{All-nil, All-cons}
use Rattle.mars_cell.specs.declared.instruction.Cell.{Cell}
use Rattle.mars_cell.specs.declared.instruction.Mode.{Mode}
use Rattle.mars_cell.specs.declared.instruction.Modifier.{Modifier}
use Rattle.mars_cell.specs.declared.instruction.Op.{Op}
use Rattle.mars_cell.specs.Cells.{FitsCore}
use Rattle.mars_cell.specs.Load.{load}
use Rattle.mars_cell.specs.Numbers.{residue}
use Rattle.mars_cell.specs.Parameters.{Parameters, AreInRange}
use Rattle.mars_cell.specs.Warriors.{WarriorValue, IsName, IsWarrior}
use Rattle.mars_cell.specs.Written.{load_text}
use Rattle.mars_cell.proofs.CallerLemmas.{cells-same, load-written}
use Rattle.redcode_text.specs.Results.{◌>>=◌}
use Rattle.redcode_text.specs.declared.token.Span.{Span}
use Rattle.redcode_text.specs.declared.token.Token.{Token}
use Rattle.redcode_text.specs.Spans.{first_span}
use Rattle.redcode_text.specs.declared.fault.TextFault.{TextFault}
use Rattle.redcode_text.specs.Expansion.{ProgramValue, expansion}
use Rattle.redcode_text.specs.Lines.{Predefined, is_org, is_end}
use Rattle.redcode_text.specs.Programs.{IsPrinted}
use Rattle.redcode_text.proofs.CallerLemmas.{program-printed}
use Rattle.redcode_asm.specs.declared.fault.AsmFault.{AsmFault}
use Rattle.redcode_asm.specs.declared.fault.AsmProblem.{AsmProblem}
use Rattle.redcode_asm.specs.declared.fault.AsmTokenProblem.{AsmTokenProblem}
use Rattle.redcode_asm.specs.declared.fault.AsmProblem.TheVariants.{BadOrigin}
use Rattle.redcode_asm.specs.Assembly.{Placed, as_start, assembly, asserts_hold, at_line, at_token, cell_from, cell_of, cell_with, cells_of, end_operand, end_start, given_operands, instructions, last_where, length_checked, modifier_span, name_value, none_past, not_empty, opcode_of, opcode_span, operand_value, operands_span, org_start, placed, predefined, replaced, split_mode, split_modifier, start_at, start_by, start_of, text_read, value_in, warrior_of}
use Rattle.redcode_asm.proofs.Counts.{cells-counted}

-- If two steps succeed together, each of them succeeds.
given_by : {A B E : Type 0} (r : Result A E) (f : A → Result B E) (b : B) → (r >>= f) ≡ Ok b → (a : A) × (r ≡ Ok a) × (f a ≡ Ok b)
given_by (Ok a) f b e = (a, refl, e)
given_by (Err x) f b e = absurd (cc)

on_line : {A : Type 0} (n : ℕ) (r : Result A AsmTokenProblem) (a : A) → at_line n r ≡ Ok a → r ≡ Ok a
on_line n (Ok x) a e = let same : x ≡ a = cc in ap (λ y. Ok y) same
on_line n (Err x) a e = absurd (cc)

on_token : {A : Type 0} (span : Option Span) (r : Result A AsmProblem) (a : A) → at_token span r ≡ Ok a → r ≡ Ok a
on_token span (Ok x) a e = let same : x ≡ a = cc in ap (λ y. Ok y) same
on_token span (Err x) a e = absurd (cc)

-- ---- Cells

residue-below : (m : ℕ) (z : ℤ) → 1 ≤ m → residue m z < m
residue-below m (pos n) some = omega arith
residue-below m (negsuc n) some = omega arith

abbrev number_in : Result (Mode × ℕ) AsmTokenProblem → ℕ
number_in (Ok v) = v.1
number_in (Err e) = 0

operand-below : (m : ℕ) (names : ℕ → Option ℤ) (o : Option (List Token)) (v : Mode × ℕ) → 1 ≤ m → operand_value m names o ≡ Ok v → v.1 < m
operand-below m names None v some e = omega (arith, some, ap number_in e)
operand-below m names (Some ts) v some e = go (value_in names (first_span ts) (split_mode ts).1) e
  where
    go : (r : Result ℤ AsmTokenProblem) → (r >>= λ z. Ok ((split_mode ts).0, residue m z)) ≡ Ok v → v.1 < m
    go (Ok z) e = omega (arith, ap number_in e, residue-below m z some)
    go (Err x) e = absurd (cc)

from-fits : (m : ℕ) (names : ℕ → Option ℤ) (operation : Option Span) (o : Op) (given : Option Modifier) (ts : List Token) (c : Cell) → 1 ≤ m → cell_from m names operation o given ts ≡ Ok c → FitsCore m c
from-fits m names operation o given ts c some e =
    let is = given_by (at_token (operands_span operation ts) (given_operands o ts)) (λ is. operand_value m names is.a >>= λ a. operand_value m names is.b >>= λ b. Ok (cell_with o given a b)) c e in
    let a = given_by (operand_value m names is.0.a) (λ a. operand_value m names is.0.b >>= λ b. Ok (cell_with o given a b)) c is.2 in
    let b = given_by (operand_value m names is.0.b) (λ b. Ok (cell_with o given a.0 b)) c a.2 in
    let same : cell_with o given a.0 b.0 ≡ c = cc in
    subst (FitsCore m) same (record { a = operand-below m names is.0.a a.0 some a.1; b = operand-below m names is.0.b b.0 some b.1 })

cell-fits : (ps : Predefined) (m : ℕ) (source : ProgramValue) (p : Placed) (c : Cell) → 1 ≤ m → cell_of ps m source p ≡ Ok c → FitsCore m c
cell-fits ps m source p c some e =
    let names = name_value ps source p.index p.index in
    let split = at_token (modifier_span p.line.rest) (split_modifier source.names p.line.rest) in
    let made : Op → Option Modifier × List Token → Result Cell AsmTokenProblem = λ o rest. replaced source rest.1 >>= cell_from m names p.line.operation_span o rest.0 in
    let o = given_by (at_token (opcode_span p.line) (opcode_of source.names p.line.operation)) (λ o. split >>= made o) c e in
    let rest = given_by split (made o.0) c o.2 in
    let ts = given_by (replaced source rest.0.1) (cell_from m names p.line.operation_span o.0 rest.0.0) c rest.2 in
    from-fits m names p.line.operation_span o.0 rest.0.0 ts.0 c some ts.2

cells-fit : (ps : Predefined) (m : ℕ) (source : ProgramValue) (is : List Placed) (cells : List Cell) → 1 ≤ m → cells_of ps m source is ≡ Ok cells → All (FitsCore m) cells
cells-fit ps m source [] cells some e = let same : [] ≡ cells = cc in subst (All (FitsCore m)) same (All-nil (FitsCore m))
cells-fit ps m source (p ∷ is) cells some e =
    let c = given_by (at_line p.line.number (cell_of ps m source p)) (λ c. cells_of ps m source is >>= λ cs. Ok (c ∷ cs)) cells e in
    let cs = given_by (cells_of ps m source is) (λ cs. Ok (c.0 ∷ cs)) cells c.2 in
    let same : c.0 ∷ cs.0 ≡ cells = cc in
    subst (All (FitsCore m)) same (All-cons (FitsCore m) c.0 cs.0 (cell-fits ps m source p c.0 some (on_line p.line.number (cell_of ps m source p) c.0 c.1)) (cells-fit ps m source is cs.0 some cs.1))

-- ---- Length and start

past-none : (is : List Placed) → none_past is ≡ Ok tt → length is ≡ 0
past-none [] e = refl
past-none (p ∷ is) e = absurd (cc)

some-there : (is : List Placed) → not_empty is ≡ Ok tt → 0 < length is
some-there [] e = absurd (cc)
some-there (p ∷ is) e = omega arith

start-below : (count : ℕ) (z : ℤ) (n : ℕ) → as_start count z ≡ Ok n → n < count
start-below count (pos k) n e = go (nat_lt k count) refl e
  where
    go : (b : Bool) → nat_lt k count ≡ b → ◌≡◌ {A = Result ℕ AsmProblem} (cond b (Ok k) (Err BadOrigin)) (Ok n) → n < count
    go true t e = let same : k ≡ n = cc in grind (arith, t, same)
    go false t e = absurd (cc)
start-below count (negsuc k) n e = absurd (cc)

at-below : (ps : Predefined) (source : ProgramValue) (count : ℕ) (p : Placed) (ts : List Token) (n : ℕ) → start_at ps source count p ts ≡ Ok n → n < count
at-below ps source count p ts n e =
    let z = given_by (value_in (name_value ps source 0 p.index) p.line.operation_span ts) (λ v. at_token (first_span ts) (as_start count v)) n e in
    start-below count z.0 n (on_token (first_span ts) (as_start count z.0) n z.2)

end-below : (ps : Predefined) (source : ProgramValue) (count : ℕ) (p : Placed) (ts : List Token) (n : ℕ) → 0 < count → end_operand ps source count p ts ≡ Ok n → n < count
end-below ps source count p [] n some e = let same : 0 ≡ n = cc in omega (arith, some, same)
end-below ps source count p (t ∷ ts) n some e = at-below ps source count p (t ∷ ts) n e

by-below : (ps : Predefined) (source : ProgramValue) (count : ℕ) (org end : Option Placed) (n : ℕ) → 0 < count → start_by ps source count org end ≡ Ok n → n < count
by-below ps source count (Some p) end n some e =
    let ts = given_by (replaced source p.line.rest) (start_at ps source count p) n (on_line p.line.number (org_start ps source count p) n e) in
    at-below ps source count p ts.0 n ts.2
by-below ps source count None (Some p) n some e =
    let ts = given_by (replaced source p.line.rest) (end_operand ps source count p) n (on_line p.line.number (end_start ps source count p) n e) in
    end-below ps source count p ts.0 n some ts.2
by-below ps source count None None n some e = let same : 0 ≡ n = cc in omega (arith, some, same)

-- ---- The whole

-- The conditions under which a warrior's load file is read back.
record CanBeRead (p : Parameters) (w : WarriorValue) : Type 0 where
  pub warrior : IsWarrior w
  pub few : length w.cells ≤ p.max_length
  pub fits : All (FitsCore p.core_size) w.cells

is-name : (bytes : List ℕ) → IsPrinted bytes → IsName bytes
is-name bytes p = record { short = p.short; printed = p.printed }

can-be-read : (ps : Predefined) (p : Parameters) (source : ProgramValue) (w : WarriorValue) → 1 ≤ p.core_size → IsPrinted source.name → IsPrinted source.author
    → warrior_of ps p source ≡ Ok w → CanBeRead p w
can-be-read ps p source w some name author e =
    let is = instructions source in
    let warrior : List Cell → ℕ → WarriorValue = λ cells start. record { name = source.name; author = source.author; cells = cells; start = start } in
    let asserted : List Cell → ℕ → Result WarriorValue AsmFault = λ cells start. asserts_hold ps source source.asserts >>= λ _. Ok (warrior cells start) in
    let started : List Cell → Result WarriorValue AsmFault = λ cells. start_of ps source (length cells) >>= asserted cells in
    let cells = given_by (cells_of ps p.core_size source is) (λ cells. length_checked p.max_length is >>= λ _. started cells) w e in
    let long = given_by (length_checked p.max_length is) (λ _. started cells.0) w cells.2 in
    let none = given_by (none_past (drop p.max_length is)) (λ _. not_empty is) long.0 long.1 in
    let start = given_by (start_of ps source (length cells.0)) (asserted cells.0) w long.2 in
    let held = given_by (asserts_hold ps source source.asserts) (λ _. Ok (warrior cells.0 start.0)) w start.2 in
    let same : warrior cells.0 start.0 ≡ w = cc in
    let count : length cells.0 ≡ length is = cells-counted ps p.core_size source is cells.0 cells.1 in
    let most : length is ≤ p.max_length = omega (arith, past-none (drop p.max_length is) none.1, length-drop p.max_length is) in
    let least : 0 < length cells.0 = omega (arith, count, some-there is none.2) in
    subst (CanBeRead p) same (record {
      warrior = record {
        start = by-below ps source (length cells.0) (last_where (λ l. is_org source.names l.operation) (placed source)) (last_where (λ l. is_end source.names l.operation) (placed source)) start.0 least start.1;
        name = is-name source.name name;
        author = is-name source.author author;
      };
      few = omega (arith, count, most);
      fits = cells-fit ps p.core_size source is cells.0 some cells.1;
    })

text-given : (r : Result ProgramValue TextFault) (s : ProgramValue) → text_read r ≡ Ok s → r ≡ Ok s
text-given (Ok x) s e = let same : x ≡ s = cc in ap (λ y. Ok y) same
text-given (Err x) s e = absurd (cc)

pub read-back : (p : Parameters) (rounds warriors : ℕ) (source : List ℕ) (w : WarriorValue) → AreInRange p → assembly p rounds warriors source ≡ Ok w
    → load p.core_size p.max_length (load_text p.core_size w) ≡ Ok w
unfolding assembly
read-back p rounds warriors source w range e =
    let ps = predefined p rounds warriors in
    let s = given_by (text_read (expansion ps source)) (warrior_of ps p) w e in
    let printed = program-printed ps source s.0 (text-given (expansion ps source) s.0 s.1) in
    let can = can-be-read ps p s.0 w range.core_least printed.0 printed.1 s.2 in
    load-written p.core_size p.core_size p.max_length w range.core_most (omega (arith, range)) can.warrior can.few can.fits ∙ ap (λ w. Ok w) (cells-same p.core_size w can.fits)
