-- The text of a cell is read back as the cell, with its numbers by value.
use Rattle.std.proofs.Common.{◌≡◌, refl, ℕ, ℤ, pos, ◌-◌, ◌/◌, ◌^◌, ◌<◌, ◌≤◌, Bool, true, false, List, [], ◌∷◌, ◌++◌, Some, length, sym, ap, ◌∙◌, nat_eq, nat_le, rules, arith, decimal, append_assoc, append-nil}
use Rattle.std.specs.List.{list_all}
use Rattle.std.proofs.lemmas.Fmt.{decimal_nonempty, digits_decimal, digits_value-decimal, length-decimal-le}
use Rattle.std.proofs.lemmas.Int.{ints}
use Rattle.std.proofs.lemmas.Str.Parse.{IsNumeralModel, numerals_by_value}
use Rattle.std.specs.Char.{is_ascii_alphanumeric, is_ascii_digit}
use Rattle.std.specs.Str.Parse.{digits_value}
use Rattle.std.specs.Prelude.{codes}
use Rattle.mars_cell.specs.Parts.{begins_word, is_blank, joins, onto_first, parts}
use Rattle.std.proofs.lemmas.Bool.{and_parts, lt-ltb, le-leb}
use Rattle.mars_cell.specs.declared.instruction.Op.{Op}
use Rattle.mars_cell.specs.declared.instruction.Op.TheVariants as op
use Rattle.mars_cell.specs.declared.instruction.Modifier.{Modifier}
use Rattle.mars_cell.specs.declared.instruction.Modifier.TheVariants as modifier
use Rattle.mars_cell.specs.declared.instruction.Mode.{Mode}
use Rattle.mars_cell.specs.declared.instruction.Mode.TheVariants as mode
use Rattle.mars_cell.specs.declared.instruction.Cell.{Cell}
use Rattle.mars_cell.specs.Words.{op_name, op_of, modifier_name, modifier_of, mode_name, mode_of}
use Rattle.mars_cell.specs.Laws.{carried, carried_number}
use Rattle.mars_cell.specs.Numbers.{parse_digits, parse_number, residue, signed, split_sign}
use Rattle.mars_cell.specs.Cells.{FitsCore}
use Rattle.mars_cell.specs.Text.{cell_text}
use Rattle.mars_cell.specs.Grammar.{cell_of, comma_at, mode_at, modifier_at, number_at, op_at, operand_at, suffix_at}
use Rattle.mars_cell.specs.Text.{number_text}
use Rattle.mars_cell.proofs.ForLaws.Values.{by_value-residue, residue-less, residue-plain}

-- ---- Digits

digit_is_word : (b : ℕ) → is_ascii_digit b ≡ true → is_ascii_alphanumeric b ≡ true
digit_is_word b e = grind arith

digit_joins : (b : ℕ) → is_ascii_digit b ≡ true → joins b ≡ true
unfolding joins
digit_joins b e = rw (digit_is_word b e) refl

digit_shows : (b : ℕ) → is_ascii_digit b ≡ true → is_blank b ≡ false
digit_shows b e = grind arith

-- A sign or a digit forms one part with the digits after it.
pub parts_digits : (ds : List ℕ) (b : ℕ) (rest : List ℕ) → joins b ≡ true → is_blank b ≡ false → list_all is_ascii_digit ds ≡ true → begins_word rest ≡ false
    → parts (b ∷ (ds ++ rest)) ≡ (b ∷ ds) ∷ parts rest
unfolding parts begins_word
parts_digits [] b rest joining shows all ends = rw (shows, joining, ends) refl
parts_digits (d ∷ ds) b rest joining shows all ends =
    let both = and_parts (is_ascii_digit d) (list_all is_ascii_digit ds) all in
    rw (shows, joining, digit_is_word d both.0) (ap (onto_first b) (parts_digits ds d rest (digit_joins d both.0) (digit_shows d both.0) both.1 ends))

-- The bytes `ds` are digits whose value is `n`.
pub record IsNumeral (n : ℕ) (ds : List ℕ) : Type 0 where
  pub digits : list_all is_ascii_digit ds ≡ true
  pub value : digits_value 10 ds ≡ n

are_digits : IsNumeralModel (λ ds. list_all is_ascii_digit ds ≡ true) (digits_value 10)
are_digits = numerals_by_value _ (search rules)

pub numeral : (n : ℕ) → n < 2 ^ 64 → IsNumeral n (decimal n)
numeral n h = record { digits = digits_decimal are_digits n h; value = digits_value-decimal are_digits n h }

-- ---- Numbers

no_minus : (b : ℕ) → is_ascii_digit b ≡ true → nat_eq b 45 ≡ false
no_minus b e = grind arith

no_plus : (b : ℕ) → is_ascii_digit b ≡ true → nat_eq b 43 ≡ false
no_plus b e = grind arith

split_sign-digits : (ds : List ℕ) → list_all is_ascii_digit ds ≡ true → split_sign ds ≡ (false, ds)
unfolding split_sign
split_sign-digits [] all = refl
split_sign-digits (b ∷ bs) all =
    let both = and_parts (is_ascii_digit b) (list_all is_ascii_digit bs) all in
    rw (no_minus b both.0, no_plus b both.0) refl

parse_number_digits : (minus : Bool) (p ds : List ℕ) → split_sign p ≡ (minus, ds) → 0 < length ds → length ds ≤ 18 → list_all is_ascii_digit ds ≡ true → parse_number p ≡ Some (signed minus (digits_value 10 ds))
unfolding parse_number parse_digits
parse_number_digits minus p ds e some few all = rw (e, lt-ltb 0 (length ds) some, le-leb (length ds) 18 few, all) refl

few_digits : (n : ℕ) → n < 2 ^ 32 → length (decimal n) ≤ 18
few_digits n h = length-decimal-le 18 n (omega arith) (omega arith) (omega arith)

-- The decimal text of a number below 2^32 is read as the number.
pub decimal_read : (n : ℕ) → n < 2 ^ 32 → parse_number (decimal n) ≡ Some (signed false n)
decimal_read n small =
    let d = numeral n (omega arith) in
    parse_number_digits false (decimal n) (decimal n) (split_sign-digits (decimal n) d.digits) (decimal_nonempty n (omega arith)) (few_digits n small) d.digits ∙ ap (λ v. Some (signed false v)) d.value

minus_read : (n : ℕ) → n < 2 ^ 32 → parse_number (codes "-" ++ decimal n) ≡ Some (signed true n)
unfolding split_sign
minus_read n small =
    let d = numeral n (omega arith) in
    parse_number_digits true (codes "-" ++ decimal n) (decimal n) refl (decimal_nonempty n (omega arith)) (few_digits n small) d.digits ∙ ap (λ v. Some (signed true v)) d.value

-- The text of a number `n` is read as a number whose residue is `n`.
record ReadsBack (m n : ℕ) : Type 0 where
  number : ℤ
  is_read : parse_number (number_text m n) ≡ Some number
  same : residue m number ≡ n

number_read : (m n : ℕ) → n < m → m < 2 ^ 32 → ReadsBack m n
number_read m n below small =
    elim (nat_le n (m / 2)) as (λ t. nat_le n (m / 2) ≡ t → ReadsBack m n) [
      | true ↦ λ e. record { number = signed false n; is_read = rw e (decimal_read n (omega arith)); same = residue-plain m n below }
      | false ↦ λ e. record { number = signed true (m - n); is_read = rw e (minus_read (m - n) (omega arith)); same = residue-less m n (signed true (m - n)) below (omega (arith, ints)) }
    ] refl

-- ---- Parts

pub digits_part : (xs rest : List ℕ) → 0 < length xs → list_all is_ascii_digit xs ≡ true → begins_word rest ≡ false → parts (xs ++ rest) ≡ xs ∷ parts rest
digits_part [] rest some all ends = absurd (omega arith)
digits_part (d ∷ ds) rest some all ends =
    let both = and_parts (is_ascii_digit d) (list_all is_ascii_digit ds) all in
    parts_digits ds d rest (digit_joins d both.0) (digit_shows d both.0) both.1 ends

minus_joins : joins 45 ≡ true
unfolding joins
minus_joins = refl

number_part : (m n : ℕ) (rest : List ℕ) → n < m → m < 2 ^ 32 → begins_word rest ≡ false → parts (number_text m n ++ rest) ≡ number_text m n ∷ parts rest
number_part m n rest below small ends =
    elim (nat_le n (m / 2)) as (λ t. nat_le n (m / 2) ≡ t → parts (number_text m n ++ rest) ≡ number_text m n ∷ parts rest) [
      | true ↦ λ e. let d = numeral n (omega arith) in rw e (digits_part (decimal n) rest (decimal_nonempty n (omega arith)) d.digits ends)
      | false ↦ λ e. let d = numeral (m - n) (omega arith) in rw e (parts_digits (decimal (m - n)) 45 rest minus_joins refl d.digits ends)
    ] refl

op_part : (o : Op) (rest : List ℕ) → parts (op_name o ++ 46 ∷ rest) ≡ op_name o ∷ (46 ∷ []) ∷ parts rest
unfolding parts joins begins_word
op_part op.Dat rest = refl
op_part op.Mov rest = refl
op_part op.Add rest = refl
op_part op.Sub rest = refl
op_part op.Mul rest = refl
op_part op.Div rest = refl
op_part op.Mod rest = refl
op_part op.Jmp rest = refl
op_part op.Jmz rest = refl
op_part op.Jmn rest = refl
op_part op.Djn rest = refl
op_part op.Seq rest = refl
op_part op.Sne rest = refl
op_part op.Slt rest = refl
op_part op.Spl rest = refl
op_part op.Nop rest = refl

pub op_read : (o : Op) → op_of (op_name o) ≡ Some o
unfolding op_of
op_read op.Dat = refl
op_read op.Mov = refl
op_read op.Add = refl
op_read op.Sub = refl
op_read op.Mul = refl
op_read op.Div = refl
op_read op.Mod = refl
op_read op.Jmp = refl
op_read op.Jmz = refl
op_read op.Jmn = refl
op_read op.Djn = refl
op_read op.Seq = refl
op_read op.Sne = refl
op_read op.Slt = refl
op_read op.Spl = refl
op_read op.Nop = refl

modifier_part : (f : Modifier) (rest : List ℕ) → parts (modifier_name f ++ 32 ∷ rest) ≡ modifier_name f ∷ parts rest
unfolding parts joins begins_word
modifier_part modifier.A rest = refl
modifier_part modifier.B rest = refl
modifier_part modifier.Ab rest = refl
modifier_part modifier.Ba rest = refl
modifier_part modifier.F rest = refl
modifier_part modifier.X rest = refl
modifier_part modifier.I rest = refl

pub modifier_read : (f : Modifier) → modifier_of (modifier_name f) ≡ Some f
unfolding modifier_of
modifier_read modifier.A = refl
modifier_read modifier.B = refl
modifier_read modifier.Ab = refl
modifier_read modifier.Ba = refl
modifier_read modifier.F = refl
modifier_read modifier.X = refl
modifier_read modifier.I = refl

mode_part : (o : Mode) (rest : List ℕ) → parts (mode_name o ++ rest) ≡ mode_name o ∷ parts rest
unfolding parts joins begins_word
mode_part mode.Immediate rest = refl
mode_part mode.Direct rest = refl
mode_part mode.AIndirect rest = refl
mode_part mode.BIndirect rest = refl
mode_part mode.APredecrement rest = refl
mode_part mode.BPredecrement rest = refl
mode_part mode.APostincrement rest = refl
mode_part mode.BPostincrement rest = refl

mode_read : (o : Mode) → mode_of (mode_name o) ≡ Some o
unfolding mode_of
mode_read mode.Immediate = refl
mode_read mode.Direct = refl
mode_read mode.AIndirect = refl
mode_read mode.BIndirect = refl
mode_read mode.APredecrement = refl
mode_read mode.BPredecrement = refl
mode_read mode.APostincrement = refl
mode_read mode.BPostincrement = refl

comma_part : (rest : List ℕ) → parts (44 ∷ 32 ∷ rest) ≡ (44 ∷ []) ∷ parts rest
unfolding parts joins begins_word
comma_part rest = refl

pub parts_nil : parts [] ≡ []
unfolding parts
parts_nil = refl

-- The parts of a cell's text.
pub cell_parts : (m : ℕ) (c : Cell) → m < 2 ^ 32 → c.a < m → c.b < m → parts (cell_text m c)
    ≡ op_name c.op ∷ codes "." ∷ modifier_name c.modifier ∷ mode_name c.a_mode ∷ number_text m c.a ∷ codes "," ∷ mode_name c.b_mode ∷ number_text m c.b ∷ []
unfolding begins_word
cell_parts m c small a b =
    let after_comma = mode_name c.b_mode ++ number_text m c.b in
    let after_a = 44 ∷ 32 ∷ after_comma in
    let operands = mode_name c.a_mode ++ (number_text m c.a ++ after_a) in
    let last : parts (number_text m c.b) ≡ number_text m c.b ∷ [] = rw (append-nil, parts_nil) at (number_part m c.b [] b small refl) in
    let shape : cell_text m c ≡ op_name c.op ++ (46 ∷ (modifier_name c.modifier ++ (32 ∷ operands))) = simp append_assoc in
    ap parts shape
    ∙ op_part c.op (modifier_name c.modifier ++ 32 ∷ operands)
    ∙ ap (λ ps. op_name c.op ∷ codes "." ∷ ps) (modifier_part c.modifier operands
    ∙ ap (λ ps. modifier_name c.modifier ∷ ps) (mode_part c.a_mode (number_text m c.a ++ after_a)
    ∙ ap (λ ps. mode_name c.a_mode ∷ ps) (number_part m c.a after_a a small refl
    ∙ ap (λ ps. number_text m c.a ∷ ps) (comma_part after_comma
    ∙ ap (λ ps. codes "," ∷ ps) (mode_part c.b_mode (number_text m c.b)
    ∙ ap (λ ps. mode_name c.b_mode ∷ ps) last)))))

mode_taken : (o : Mode) (rest : List (List ℕ)) → mode_at (mode_name o ∷ rest) ≡ (o, rest)
unfolding mode_at mode_of
mode_taken mode.Immediate rest = refl
mode_taken mode.Direct rest = refl
mode_taken mode.AIndirect rest = refl
mode_taken mode.BIndirect rest = refl
mode_taken mode.APredecrement rest = refl
mode_taken mode.BPredecrement rest = refl
mode_taken mode.APostincrement rest = refl
mode_taken mode.BPostincrement rest = refl

number_taken : (p : List ℕ) (rest : List (List ℕ)) (r : ℤ) → parse_number p ≡ Some r → number_at (p ∷ rest) ≡ Some (r, rest)
unfolding number_at
number_taken p rest r e = rw e refl

operand_read : (m size : ℕ) (o : Mode) (n : ℕ) (rest : List (List ℕ)) → n < m → m < 2 ^ 32 → operand_at m size (mode_name o ∷ number_text m n ∷ rest) ≡ Some (o, carried_number m size n, rest)
unfolding operand_at
operand_read m size o n rest below small =
    let r = number_read m n below small in
    let value = by_value-residue m size r.number (pos n) (r.same ∙ sym (residue-plain m n below)) in
    rw (mode_taken o (number_text m n ∷ rest), number_taken (number_text m n) rest r.number r.is_read, value) refl

-- The text of a cell of a core of `m` cells is read, for a core of another size, as the cell carried by value.
pub cell_read : (m size : ℕ) (c : Cell) → m < 2 ^ 32 → FitsCore m c → cell_of m size (parts (cell_text m c)) ≡ Some (carried m size c)
unfolding cell_of op_at suffix_at modifier_at comma_at
cell_read m size c small fits =
    rw (cell_parts m c small fits.a fits.b, op_read c.op, modifier_read c.modifier, operand_read m size c.a_mode c.a _ fits.a small, operand_read m size c.b_mode c.b _ fits.b small) refl
