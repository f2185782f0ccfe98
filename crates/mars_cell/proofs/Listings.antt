-- The listing that is read line after line consists of the statements of the lines.
use Rattle.std.proofs.Common.{◌≡◌, refl, ℕ, ◌+◌, ◌==◌, nat_lt, List, [], ◌∷◌, ◌++◌, length, Option, None, Some, Result, Ok, Err, sym, ap, ◌∙◌, append_assoc, append-nil}
use Rattle.std.specs.Prelude.{ℤ, pos, if◌then◌else◌, unwrap_or}
use Rattle.std.specs.Int.RustNames.{unsigned_abs}
use Rattle.std.specs.List.{flat_map, last_or}
use Rattle.std.specs.Option.{option_or}
use Rattle.mars_cell.specs.declared.instruction.Cell.{Cell}
use Rattle.mars_cell.specs.declared.statements.Statement.{Statement}
use Rattle.mars_cell.specs.declared.statements.Statement.TheVariants as statement
use Rattle.mars_cell.specs.declared.fault.LoadFault.{LoadFault}
use Rattle.mars_cell.specs.declared.fault.LoadFault.TheVariants as fault
use Rattle.mars_cell.specs.Header.{HeaderValue}
use Rattle.mars_cell.specs.Load.{Loads, body, with_rest, cells_of, end_in, is_index, line_statement, origin_in, statements, statements_from, warrior_of}
use Rattle.mars_cell.specs.Code.Listing.{Listing, ReadsListing, load_from, nothing_read}
use Rattle.mars_cell.specs.Warriors.{WarriorValue}

-- The listing `s` extended by the statements `ss`.
abbrev after : Listing → List Statement → Listing
after s ss = record { cells = s.cells ++ cells_of ss; origin = last_or s.origin (flat_map origin_in ss); end = last_or s.end (flat_map end_in ss) }

abbrev read_after : Listing → Result (List Statement) ℕ → Result Listing ℕ
read_after s (Ok ss) = Ok (after s ss)
read_after s (Err k) = Err k

read_after-nothing : (s : Listing) (r : Result (List Statement) ℕ) → read_after s (with_rest statement.Nothing r) ≡ read_after s r
read_after-nothing s (Ok ss) = refl
read_after-nothing s (Err k) = refl

read_after-origin : (s : Listing) (n : ℤ) (r : Result (List Statement) ℕ) → read_after s (with_rest (statement.Origin n) r) ≡ read_after (record s { origin = Some n }) r
read_after-origin s n (Ok ss) = refl
read_after-origin s n (Err k) = refl

read_after-instruction : (s : Listing) (c : Cell) (r : Result (List Statement) ℕ) → read_after s (with_rest (statement.Instruction c) r) ≡ read_after (record s { cells = s.cells ++ c ∷ [] }) r
read_after-instruction s c (Ok ss) = rw (append_assoc s.cells (c ∷ []) (cells_of ss)) refl
read_after-instruction s c (Err k) = refl

after-end : (s : Listing) (n : Option ℤ) → s.end ≡ None → after s (statement.End n ∷ []) ≡ record s { end = n }
after-end s (Some n) e = rw append-nil refl
after-end s None e = rw (append-nil, e) refl

after-none : (s : Listing) → after s [] ≡ s
after-none s = rw append-nil refl

pub load_from-statements : (written m k : ℕ) (s : Listing) (ls : List (List ℕ)) → s.end ≡ None → load_from written m k s ls ≡ read_after s (statements written m k ls)
unfolding load_from statements
load_from-statements written m k s [] open_end = ap Ok (sym (after-none s))
load_from-statements written m k s (l ∷ ls) open_end =
    elim (line_statement written m l) as (λ t. line_statement written m l ≡ t → load_from written m k s (l ∷ ls) ≡ read_after s (statements written m k (l ∷ ls))) [
      | None ↦ λ e. rw (load_from, statements, e) refl
      | Some x ↦ λ e. rw (load_from, statements, e) (elim x as (λ x. elim x [
        | statement.Nothing ↦ load_from written m (k + 1) s ls
        | statement.Origin n ↦ load_from written m (k + 1) (record s { origin = Some n }) ls
        | statement.End n ↦ Ok (record s { end = n })
        | statement.Instruction c ↦ load_from written m (k + 1) (record s { cells = s.cells ++ c ∷ [] }) ls
      ] ≡ read_after s (statements_from x (statements written m (k + 1) ls))) [
        | statement.Nothing ↦ load_from-statements written m (k + 1) s ls open_end ∙ sym (read_after-nothing s (statements written m (k + 1) ls))
        | statement.Origin n ↦ load_from-statements written m (k + 1) (record s { origin = Some n }) ls open_end ∙ sym (read_after-origin s n (statements written m (k + 1) ls))
        | statement.End n ↦ ap Ok (sym (after-end s n open_end))
        | statement.Instruction c ↦ load_from-statements written m (k + 1) (record s { cells = s.cells ++ c ∷ [] }) ls open_end ∙ sym (read_after-instruction s c (statements written m (k + 1) ls))
      ])
    ] refl

-- ---- The warrior of a listing

abbrev pub start_in : Listing → ℤ
start_in s = unwrap_or (option_or s.origin s.end) (pos 0)

abbrev pub warrior_in : HeaderValue → ℕ → Listing → Result WarriorValue LoadFault
warrior_in h longest s =
    if nat_lt longest (length s.cells) then Err fault.TooLong
    else if length s.cells == 0 then Err fault.Empty
    else if is_index (start_in s) (length s.cells) then Ok (record { name = h.name; author = h.author; cells = s.cells; start = unsigned_abs (start_in s) })
    else Err fault.BadOrigin

abbrev body_with : HeaderValue → ℕ → Result (List Statement) ℕ → Result WarriorValue LoadFault
body_with h longest (Err k) = Err (fault.Syntax k)
body_with h longest (Ok ss) = warrior_of h longest ss

body-with : (h : HeaderValue) (m longest k : ℕ) (ls : List (List ℕ)) → body h m longest k ls ≡ body_with h longest (statements h.written m k ls)
unfolding body
body-with h m longest k ls = refl

with_listing : (h : HeaderValue) (longest : ℕ) (r : Result (List Statement) ℕ) (s : Listing) → read_after nothing_read r ≡ Ok s → body_with h longest r ≡ warrior_in h longest s
with_listing h longest (Ok ss) s e = let same : after nothing_read ss ≡ s = cc in rw (← same) refl
with_listing h longest (Err k) s e = cc

with_bad_line : (h : HeaderValue) (longest : ℕ) (r : Result (List Statement) ℕ) (k : ℕ) → read_after nothing_read r ≡ Err k → body_with h longest r ≡ Err (fault.Syntax k)
with_bad_line h longest (Ok ss) k e = cc
with_bad_line h longest (Err j) k e = let same : j ≡ k = cc in rw same refl

pub body-listing : (h : HeaderValue) (m longest k : ℕ) (ls : List (List ℕ)) (s : Listing) → load_from h.written m k nothing_read ls ≡ Ok s → body h m longest k ls ≡ warrior_in h longest s
body-listing h m longest k ls s e = body-with h m longest k ls ∙ with_listing h longest (statements h.written m k ls) s (sym (load_from-statements h.written m k nothing_read ls refl) ∙ e)

body-bad_line : (h : HeaderValue) (m longest k : ℕ) (ls : List (List ℕ)) (j : ℕ) → load_from h.written m k nothing_read ls ≡ Err j → body h m longest k ls ≡ Err (fault.Syntax j)
body-bad_line h m longest k ls j e = body-with h m longest k ls ∙ with_bad_line h longest (statements h.written m k ls) j (sym (load_from-statements h.written m k nothing_read ls refl) ∙ e)

-- The error of the reader is the defined error.
pub fault_from_listing : (h : HeaderValue) (m longest k : ℕ) (ls : List (List ℕ)) (f : LoadFault) → ReadsListing (Err f) (load_from h.written m k nothing_read ls) → Loads (Err f) (body h m longest k ls)
fault_from_listing h m longest k ls fault.OutOfMemory e = tt
fault_from_listing h m longest k ls (fault.Syntax j) e = body-bad_line h m longest k ls j e
fault_from_listing h m longest k ls fault.TooLong e = absurd e
fault_from_listing h m longest k ls fault.Empty e = absurd e
fault_from_listing h m longest k ls fault.BadOrigin e = absurd e
fault_from_listing h m longest k ls fault.Version e = absurd e
