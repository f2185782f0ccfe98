-- Names are free: a program with other names that have the same meanings is assembled to the same warrior.
use Rattle.std.proofs.Common.{◌≡◌, refl, ◌∙◌, ap, ℕ, ◌+◌, pos, ◌&&◌, ◌||◌, true, false, List, [], ◌∷◌, length, nat_lt, is_some, Option, Some, None, Result, Ok}
use Rattle.std.specs.Prelude.{not, filter, option_map, ◌-ℤ◌}
use Rattle.mars_cell.specs.declared.instruction.Modifier.{Modifier}
use Rattle.mars_cell.specs.Parameters.{Parameters}
use Rattle.redcode_text.specs.Results.{◌>>=◌}
use Rattle.redcode_text.specs.declared.token.Token.{Token}
use Rattle.redcode_text.specs.declared.token.TokenKind.{TokenKind}
use Rattle.redcode_text.specs.declared.token.TokenKind.TheVariants.{Number, Name}
use Rattle.redcode_text.specs.declared.token.TokenKind.TheVariants as token
use Rattle.redcode_text.specs.Spans.{first_span}
use Rattle.redcode_text.specs.Expansion.{ProgramValue}
use Rattle.redcode_text.specs.Lines.{Line, Assert, Predefined, name_at, is_org, is_end, is_instruction}
use Rattle.redcode_asm.specs.declared.fault.AsmProblem.{AsmProblem}
use Rattle.redcode_asm.specs.declared.fault.AsmProblem.TheVariants.{Operation}
use Rattle.redcode_asm.specs.Assembly.{Placed, asserts_hold, as_start, at_line, at_token, cell_from, cells_of, cell_of, end_operand, index_after, instructions, is_dot, known_value, label_among, last_where, length_checked, modifier_first, modifier_in, modifier_span, name_value, ok_or, opcode_of, opcode_span, placed, placed_from, replaced, split_modifier, start_at, start_by, start_of, tokens_hold, value_in, value_or, warrior_of}
use Rattle.redcode_asm.specs.Laws.{SaysTheSame}

module _ (ps : Predefined) (s : ProgramValue) (names : List (List ℕ)) (same : (n : ℕ) → SaysTheSame ps (name_at s.names n) (name_at names n)) where
  -- The program `s` with the other names `names`.
  abbrev other : ProgramValue
  other = record s { names = names }

  -- ---- Lines

  org-same : (o : Option ℕ) → is_org s.names o ≡ is_org names o
  org-same None = refl
  org-same (Some n) = (same n).org

  end-same : (o : Option ℕ) → is_end s.names o ≡ is_end names o
  end-same None = refl
  end-same (Some n) = (same n).end

  instruction-same : (o : Option ℕ) (ts : List Token) → is_instruction s.names o ts ≡ is_instruction names o ts
  instruction-same o ts = λ i. (is_some o || nat_lt 0 (length ts)) && not (org-same o i || end-same o i)

  placed-from-same : (index : ℕ) (ls : List Line) → placed_from s.names index ls ≡ placed_from names index ls
  placed-from-same index [] = refl
  placed-from-same index (l ∷ ls) =
      ap (λ b. record { index = index; line = l } ∷ placed_from s.names (elim b as (λ _. ℕ) [ true ↦ index + 1 | false ↦ index ]) ls) (instruction-same l.operation l.rest)
      ∙ ap (λ rest. record { index = index; line = l } ∷ rest) (placed-from-same (index_after names index l) ls)

  placed-same : placed s ≡ placed other
  placed-same = placed-from-same 0 s.lines

  instructions-same : instructions s ≡ instructions other
  instructions-same = λ i. filter (λ p. instruction-same p.line.operation p.line.rest i) (placed-same i)

  -- ---- Values

  known-same : (index n : ℕ) → known_value ps s index n ≡ known_value ps other index n
  known-same index n = (same n).value index

  value-same : (origin index n : ℕ) → name_value ps s origin index n ≡ name_value ps other origin index n
  value-same origin index n = λ i. value_or (option_map (λ j. pos j -ℤ pos origin) (label_among (placed-same i) n)) (known-same index n i)

  -- ---- Cells

  opcode-same : (o : Option ℕ) → opcode_of s.names o ≡ opcode_of names o
  opcode-same None = refl
  opcode-same (Some n) = ap (ok_or Operation) (same n).opcode

  modifier-same : (k : TokenKind) → modifier_in s.names k ≡ modifier_in names k
  modifier-same (Name n) = ap (ok_or Operation) (same n).modifier
  modifier-same (Number v) = refl
  modifier-same (token.Sign x) = refl

  first-same : (ts : List Token) → modifier_first s.names ts ≡ modifier_first names ts
  first-same [] = refl
  first-same (t ∷ ts) = ap (λ r. r >>= λ m. Ok (Some m, ts)) (modifier-same t.kind)

  split-same : (ts : List Token) → split_modifier s.names ts ≡ split_modifier names ts
  split-same [] = refl
  split-same (t ∷ ts) = ap (λ r. elim (is_dot t.kind) as (λ _. Result (Option Modifier × List Token) AsmProblem) [ true ↦ r | false ↦ Ok (None, t ∷ ts) ]) (first-same ts)

  cell-same : (m : ℕ) (p : Placed) → cell_of ps m s p ≡ cell_of ps m other p
  cell-same m p = λ i.
      at_token (opcode_span p.line) (opcode-same p.line.operation i) >>= λ o.
      at_token (modifier_span p.line.rest) (split-same p.line.rest i) >>= λ rest.
      replaced s rest.1 >>= cell_from m (λ n. value-same p.index p.index n i) p.line.operation_span o rest.0

  cells-same : (m : ℕ) (is : List Placed) → cells_of ps m s is ≡ cells_of ps m other is
  cells-same m [] = refl
  cells-same m (p ∷ is) = λ i. at_line p.line.number (cell-same m p i) >>= λ c. cells-same m is i >>= λ cs. Ok (c ∷ cs)

  -- ---- The start

  at-same : (count : ℕ) (p : Placed) (ts : List Token) → start_at ps s count p ts ≡ start_at ps other count p ts
  at-same count p ts = λ i. value_in (λ n. value-same 0 p.index n i) p.line.operation_span ts >>= λ v. at_token (first_span ts) (as_start count v)

  operand-same : (count : ℕ) (p : Placed) (ts : List Token) → end_operand ps s count p ts ≡ end_operand ps other count p ts
  operand-same count p [] = refl
  operand-same count p (t ∷ ts) = at-same count p (t ∷ ts)

  by-same : (count : ℕ) (org end : Option Placed) → start_by ps s count org end ≡ start_by ps other count org end
  by-same count (Some p) end = λ i. at_line p.line.number (replaced s p.line.rest >>= λ ts. at-same count p ts i)
  by-same count None (Some p) = λ i. at_line p.line.number (replaced s p.line.rest >>= λ ts. operand-same count p ts i)
  by-same count None None = refl

  start-same : (count : ℕ) → start_of ps s count ≡ start_of ps other count
  start-same count =
      by-same count (last_where (λ l. is_org s.names l.operation) (placed s)) (last_where (λ l. is_end s.names l.operation) (placed s))
      ∙ (λ i. start_by ps other count (last_where (λ l. org-same l.operation i) (placed-same i)) (last_where (λ l. end-same l.operation i) (placed-same i)))

  -- ---- Asserts, and the whole

  asserts-same : (all : List Assert) → asserts_hold ps s all ≡ asserts_hold ps other all
  asserts-same [] = refl
  asserts-same (a ∷ rest) = λ i. at_line a.number (replaced s a.tokens >>= tokens_hold (λ n. known-same a.current_line n i)) >>= λ _. asserts-same rest i

  pub warrior-same : (p : Parameters) → warrior_of ps p s ≡ warrior_of ps p other
  warrior-same p =
      let cells : cells_of ps p.core_size s (instructions s) ≡ cells_of ps p.core_size other (instructions other) = cells-same p.core_size (instructions s) ∙ ap (cells_of ps p.core_size other) instructions-same in
      λ i. cells i >>= λ cells. length_checked p.max_length (instructions-same i) >>= λ _. start-same (length cells) i >>= λ start. asserts-same s.asserts i >>= λ _.
      Ok (record { name = s.name; author = s.author; cells = cells; start = start })
