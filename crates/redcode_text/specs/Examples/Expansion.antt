-- Examples: sources and what they expand to.
use Rattle.std.specs.Prelude.{◌≡◌, ℕ, List, [], ◌∷◌, ◌++◌, length, map, pos, Option, Some, None, Result, Ok, Err, codes, refl}
use Rattle.std.specs.Fmt.{digits}
use Rattle.redcode_text.specs.declared.token.TokenKind.{TokenKind}
use Rattle.redcode_text.specs.declared.token.TokenKind.TheVariants.{Number, Name}
use Rattle.redcode_text.specs.declared.token.TokenKind.TheVariants as token
use Rattle.redcode_text.specs.declared.token.Sign.TheVariants.{Comma, Dot}
use Rattle.redcode_text.specs.declared.fault.ExprFault.TheVariants.{DivideByZero}
use Rattle.redcode_text.specs.declared.fault.TextFault.{TextFault}
use Rattle.redcode_text.specs.declared.fault.TextProblem.{TextProblem}
use Rattle.redcode_text.specs.declared.fault.TextProblem.TheVariants.{BadToken, UnclosedFor, RofAlone, BadCount, LabelInCount, Duplicate, EquDepth, Expression}
use Rattle.redcode_text.specs.Expression.{kinds, value_of, tree_within}
use Rattle.redcode_text.specs.Lines.{Predefined, name_at}
use Rattle.redcode_text.specs.Expansion.{ProgramValue, expansion}

abbrev pub text : List (List ℕ) → List ℕ
text [] = []
text (l ∷ ls) = l ++ 10 ∷ text ls

abbrev pub predefined : Predefined
predefined = (codes "CORESIZE", pos 8000) ∷ []

-- What an example shows of a token: its kind, with the name itself, but not the token's position.
pub data Shown : Type 0 where
  N : ℕ → Shown
  W : List ℕ → Shown
  Mark : TokenKind → Shown

abbrev pub shown_token : List (List ℕ) → TokenKind → Shown
shown_token names (Number (pos n)) = N n
shown_token names (Name n) = W (name_at names n)
shown_token names k = Mark k

pub record ShownLine : Type 0 where
  pub number : ℕ
  pub labels : List (List ℕ)
  pub operation : List ℕ
  pub rest : List Shown

abbrev pub shown_operation : List (List ℕ) → Option ℕ → List ℕ
shown_operation names None = []
shown_operation names (Some n) = name_at names n

-- The lines of a program, or the line number and the problem of an error.
abbrev pub Listing : Type 0
Listing = Result (List ShownLine) (ℕ × TextProblem)

abbrev pub shown : Result ProgramValue TextFault → Listing
shown (Ok st) = Ok (map (λ l. record { number = l.number; labels = map (name_at st.names) l.labels; operation = shown_operation st.names l.operation; rest = map (shown_token st.names) (kinds l.rest) }) st.lines)
shown (Err e) = Err (e.line, e.problem)

abbrev pub lines : List (List ℕ) → Listing
unfolding expansion
lines ls = shown (expansion predefined (text ls))

abbrev pub line : ℕ → List (List ℕ) → List ℕ → List Shown → ShownLine
line number labels operation rest = record { number = number; labels = labels; operation = operation; rest = rest }

abbrev pub fault : ℕ → TextProblem → Listing
fault n p = Err (n, p)

abbrev pub comma : Shown
comma = Mark (token.Sign Comma)

-- A loop that is skipped, and a loop whose counter is used in joins and as a word.
pub row_loops : lines (codes "FOR 0" ∷ codes "this is prose" ∷ codes "ROF" ∷ codes "i FOR 2" ∷ codes "x&i DAT i, 0" ∷ codes "ROF" ∷ codes "DAT x02, x01" ∷ [])
    ≡ Ok (line 5 (codes "x01" ∷ []) (codes "DAT") (N 1 ∷ comma ∷ N 0 ∷ [])
    ∷ line 5 (codes "x02" ∷ []) (codes "DAT") (N 2 ∷ comma ∷ N 0 ∷ [])
    ∷ line 7 [] (codes "DAT") (W (codes "x02") ∷ comma ∷ W (codes "x01") ∷ [])
    ∷ [])
unfolding expansion value_of tree_within digits
row_loops = refl

-- Nested loops: the counter of the outer loop has its value before, inside and after the inner loop.
pub row_nested : lines (codes "i FOR 2" ∷ codes "x&i NOP" ∷ codes "j FOR 2" ∷ codes "DAT i, j" ∷ codes "ROF" ∷ codes "y&i NOP" ∷ codes "ROF" ∷ [])
    ≡ Ok (line 2 (codes "x01" ∷ []) (codes "NOP") []
    ∷ line 4 [] (codes "DAT") (N 1 ∷ comma ∷ N 1 ∷ [])
    ∷ line 4 [] (codes "DAT") (N 1 ∷ comma ∷ N 2 ∷ [])
    ∷ line 6 (codes "y01" ∷ []) (codes "NOP") []
    ∷ line 2 (codes "x02" ∷ []) (codes "NOP") []
    ∷ line 4 [] (codes "DAT") (N 2 ∷ comma ∷ N 1 ∷ [])
    ∷ line 4 [] (codes "DAT") (N 2 ∷ comma ∷ N 2 ∷ [])
    ∷ line 6 (codes "y02" ∷ []) (codes "NOP") []
    ∷ [])
unfolding expansion value_of tree_within digits
row_nested = refl

-- A FOR without a ROF is an error when it is read, and so is a ROF without a FOR.
pub row_unpaired :
    (lines (codes "FOR 0" ∷ codes "this is prose" ∷ codes "ROF" ∷ codes "i FOR 2" ∷ codes "x&i DAT i, 0" ∷ codes "DAT x02, x01" ∷ []) ≡ fault 4 UnclosedFor)
    × (lines (codes "DAT 0" ∷ codes "ROF" ∷ []) ≡ fault 2 RofAlone)
    × (lines (codes "FOR 0" ∷ codes "FOR" ∷ codes "ROF" ∷ []) ≡ fault 1 UnclosedFor)
unfolding expansion value_of tree_within digits
row_unpaired = (refl, refl, refl)

abbrev pub line_count : List (List ℕ) → ℕ
line_count ls = elim (lines ls) [ Ok shown ↦ length shown | Err e ↦ 0 ]

-- Counts: from 0 to 10,000, in terms of numbers, predefined names and EQU names defined before.
pub row_counts :
    (line_count (codes "i FOR 100" ∷ codes "DAT i" ∷ codes "ROF" ∷ []) ≡ 100)
    × (lines (codes "FOR -1" ∷ codes "ROF" ∷ []) ≡ fault 1 BadCount)
    × (lines (codes "FOR 10001" ∷ codes "ROF" ∷ []) ≡ fault 1 BadCount)
    × (lines (codes "FOR lab" ∷ codes "ROF" ∷ []) ≡ fault 1 LabelInCount)
    × (lines (codes "FOR 1/0" ∷ codes "ROF" ∷ []) ≡ fault 1 (Expression DivideByZero))
    × (lines (codes "FOR FOR 3" ∷ codes "ROF" ∷ []) ≡ fault 1 LabelInCount)
    × (lines (codes "n EQU 2" ∷ codes "FOR n*CURLINE" ∷ codes "NOP" ∷ codes "ROF" ∷ codes "NOP" ∷ []) ≡ Ok (line 5 [] (codes "NOP") [] ∷ []))
    × (lines (codes "n EQU 2" ∷ codes " EQU 3" ∷ codes "FOR n" ∷ codes "ROF" ∷ []) ≡ fault 3 BadToken)
unfolding expansion value_of tree_within digits
row_counts = (refl, refl, refl, refl, refl, refl, refl, refl)

-- EQU lines: names that are in use, definitions of several lines, and a definition that uses its own name.
pub row_equates :
    (lines (codes "CORESIZE EQU 1" ∷ []) ≡ fault 1 Duplicate)
    × (lines (codes "DAT 0" ∷ codes " EQU 1" ∷ []) ≡ fault 2 BadToken)
    × (lines (codes "x EQU 1" ∷ codes "FOR 0" ∷ codes "ROF" ∷ codes " EQU 1" ∷ []) ≡ fault 4 BadToken)
    × (lines (codes "x EQU 1" ∷ [] ∷ codes ";name x" ∷ codes "; x" ∷ codes " EQU 1" ∷ []) ≡ Ok [])
    × (lines (codes "x EQU 1" ∷ codes "x EQU 2" ∷ []) ≡ fault 2 Duplicate)
    × (lines (codes ": EQU 2" ∷ []) ≡ fault 1 BadToken)
    × (lines (codes "x: EQU NOP 2" ∷ codes "a b: x , 3" ∷ []) ≡ Ok (line 2 (codes "a" ∷ codes "b" ∷ []) (codes "NOP") (N 2 ∷ comma ∷ N 3 ∷ []) ∷ []))
    × (lines (codes "x EQU x" ∷ codes "x" ∷ []) ≡ fault 2 EquDepth)
unfolding expansion value_of tree_within digits
row_equates = (refl, refl, refl, refl, refl, refl, refl, refl)

-- The words of a line decide its kind, even if the token of a word is the number of a counter. ROF ends a loop only as
-- the first word.
pub row_words :
    (lines (codes "EQU FOR 1" ∷ codes "x EQU 5" ∷ codes "x" ∷ codes "ROF" ∷ []) ≡ Ok (line 3 [] [] (N 5 ∷ []) ∷ []))
    × (lines (codes "i FOR 1" ∷ codes "MOV.i 5&i, i" ∷ codes "ROF" ∷ []) ≡ Ok (line 2 [] (codes "MOV") (Mark (token.Sign Dot) ∷ N 1 ∷ N 501 ∷ comma ∷ N 1 ∷ []) ∷ []))
    × (lines (codes "i FOR 1" ∷ codes "i FOR 1" ∷ codes "ROF" ∷ codes "ROF" ∷ []) ≡ fault 2 BadToken)
    × (lines (codes ": FOR 2" ∷ codes "ROF" ∷ []) ≡ fault 1 BadToken)
    × (lines (codes "x ROF" ∷ []) ≡ Ok (line 1 (codes "x" ∷ []) (codes "ROF") [] ∷ []))
    × (lines (codes "i FOR 1" ∷ codes "ROF &i" ∷ []) ≡ fault 2 BadToken)
unfolding expansion value_of tree_within digits
row_words = (refl, refl, refl, refl, refl, refl)

-- Ordinary lines: labels up to an operation, and lines that start with something else.
pub row_ordinary :
    (lines (codes "a: b CORESIZE NOP" ∷ []) ≡ fault 1 Duplicate)
    × (lines (codes "a" ∷ codes "b a NOP" ∷ []) ≡ fault 2 Duplicate)
    × (lines (codes "a a NOP" ∷ []) ≡ fault 1 Duplicate)
    × (lines (codes "a" ∷ codes "b 5 NOP" ∷ []) ≡ Ok (line 1 (codes "a" ∷ []) [] [] ∷ line 2 (codes "b" ∷ []) [] (N 5 ∷ W (codes "NOP") ∷ []) ∷ []))
    × (lines (codes "eNd 1" ∷ codes "1x" ∷ []) ≡ Ok (line 1 [] (codes "eNd") (N 1 ∷ []) ∷ []))
    × (lines (codes "NOP 1x" ∷ []) ≡ fault 1 BadToken)
    × (lines (codes "prose!?" ∷ codes ";RedCode-94" ∷ codes "NOP" ∷ codes ";redcode ?" ∷ []) ≡ Ok (line 3 [] (codes "NOP") [] ∷ []))
unfolding expansion value_of tree_within digits
row_ordinary = (refl, refl, refl, refl, refl, refl, refl)

record Metadata : Type 0 where
  name : List ℕ
  author : List ℕ
  asserts : List (ℕ × ℕ × List Shown)

abbrev metadata_of : List (List ℕ) → Result Metadata TextFault
unfolding expansion
metadata_of ls = elim (expansion predefined (text ls)) [ Ok st ↦ Ok (record { name = st.name; author = st.author; asserts = map (λ a. (a.number, a.current_line, map (shown_token st.names) (kinds a.tokens))) st.asserts }) | Err e ↦ Err e ]

-- Directives: names with their defaults, and asserts with the number of instructions before them.
row_directives :
    (metadata_of (codes "NOP" ∷ []) ≡ Ok (record { name = codes "Unknown"; author = codes "Anonymous"; asserts = [] }))
    × (metadata_of (codes ";name  Imp ;x " ∷ codes " ;AUTHOR A." ∷ codes ";name" ∷ codes ";names y" ∷ codes ";name;y" ∷ []) ≡ Ok (record { name = codes "Imp ;x"; author = codes "A."; asserts = [] }))
    × (metadata_of (codes "NOP" ∷ codes ";assert 1 ; no" ∷ codes ";assert" ∷ []) ≡ Ok (record { name = codes "Unknown"; author = codes "Anonymous"; asserts = (2, 1, N 1 ∷ []) ∷ (3, 1, []) ∷ [] }))
unfolding expansion value_of tree_within digits
row_directives = (refl, refl, refl)
