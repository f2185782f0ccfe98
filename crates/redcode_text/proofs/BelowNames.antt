-- The names of the tokens of a row, and the counter of a loop, are in the table of names.
use Rattle.std.proofs.Common.{◌≡◌, ◌∙◌, drop, ℕ, zero, suc, ◌+◌, ◌-◌, ◌^◌, ◌≤◌, ◌<◌, pos, nat_lt, Bool, true, false, cond, not, List, [], ◌∷◌, ◌++◌, length, take, Option, Some, None, Result, Ok, Err, refl, ap, subst, arith}
use Rattle.std.specs.Prelude.{⊤}
use Rattle.std.specs.Char.{is_ascii, is_ascii_digit}
use Rattle.std.specs.List.{list_all}
use Rattle.std.specs.Str.Parse.{digits_value}
use Rattle.std.proofs.lemmas.List.{length-append}
use Rattle.redcode_text.specs.Results.{◌>>=◌}
use Rattle.redcode_text.specs.Code.Counters.{IsThere}
use Rattle.redcode_text.specs.declared.fault.TextProblem.{TextProblem}
use Rattle.redcode_text.specs.declared.fault.TextTokenProblem.{TextTokenProblem}
use Rattle.redcode_text.specs.declared.fault.TextProblem.TheVariants.{BadToken, NotAscii, TooLong}
use Rattle.redcode_text.specs.declared.token.Sign.{Sign}
use Rattle.redcode_text.specs.declared.token.Span.{Span}
use Rattle.redcode_text.specs.declared.token.Token.{Token}
use Rattle.redcode_text.specs.declared.token.TokenKind.{TokenKind}
use Rattle.redcode_text.specs.declared.token.TokenKind.TheVariants.{Name, Number}
use Rattle.redcode_text.specs.declared.token.TokenKind.TheVariants as token
use Rattle.redcode_text.specs.Equates.{limit}
use Rattle.redcode_text.specs.Lines.{Reading, WithTokens, before_comment, is_colon, misplaced, name_alone, name_in_front, name_with_colon, row_tokens, tokens_before}
use Rattle.redcode_text.specs.Source.{SourceRow}
use Rattle.redcode_text.specs.Tokens.{Found, OpenLoop, Scanned, at_token, problem_at, span_at, unread_len, begins_name, begins_word, is_blank, joined, look_up, name_found, name_index, number_found, one_byte_signs, round_of, scan_from, sign_found, sign_token, token_at, tokens, two_byte_signs, with_name, with_room, with_token, word_found, word_len, word_token}
use Rattle.redcode_text.proofs.Named.{IsBelow}
use Rattle.redcode_text.proofs.NamesMore.{with-front, with-inside}

-- The value of a result, if there is a value, has the property `P`.
abbrev pub Holds : {A E : Type 0} → (A → Type 0) → Result A E → Type 0
Holds P (Ok a) = P a
Holds P (Err e) = ⊤

holds-then : {A B E : Type 0} (P : A → Type 0) (Q : B → Type 0) (r : Result A E) (f : A → Result B E) → Holds P r → ((a : A) → P a → Holds Q (f a)) → Holds Q (r >>= f)
holds-then P Q (Ok a) f h on = on a h
holds-then P Q (Err e) f h on = tt

holds-token : {A : Type 0} (P : A → Type 0) (span : Option Span) (r : Result A TextProblem) → Holds P r → Holds P (at_token span r)
holds-token P span (Ok a) h = h
holds-token P span (Err e) h = tt

-- ---- Tokens

abbrev pub TokensBelow : ℕ → List Token → Type 0
TokensBelow n [] = ⊤
TokensBelow n (t ∷ ts) = IsBelow n t.kind × TokensBelow n ts

kind-more : (n m : ℕ) → n ≤ m → (k : TokenKind) → IsBelow n k → IsBelow m k
kind-more n m more (Name i) h = omega (arith, more, h)
kind-more n m more (Number v) h = tt
kind-more n m more (token.Sign s) h = tt

below-more : (n m : ℕ) → n ≤ m → (ts : List Token) → TokensBelow n ts → TokensBelow m ts
below-more n m more [] h = tt
below-more n m more (t ∷ ts) h = (kind-more n m more t.kind h.0, below-more n m more ts h.1)

below-push : (n : ℕ) (ts : List Token) (t : Token) → TokensBelow n ts → IsBelow n t.kind → TokensBelow n (ts ++ t ∷ [])
below-push n [] t h is = (is, tt)
below-push n (x ∷ ts) t h is = (h.0, below-push n ts t h.1 is)

below-before : (n at : ℕ) (ts : List Token) → TokensBelow n ts → TokensBelow n (tokens_before at ts)
below-before n at [] h = tt
below-before n at (t ∷ ts) h = go (nat_lt t.from at) (below-before n at ts h.1)
  where
    go : (b : Bool) → TokensBelow n (tokens_before at ts) → TokensBelow n (cond b (t ∷ tokens_before at ts) (tokens_before at ts))
    go true rest = (h.0, rest)
    go false rest = rest

-- ---- A token

pub record IsFoundBelow (names : List (List ℕ)) (f : Found) : Type 0 where
  pub more : length names ≤ length f.names
  pub kind : IsBelow (length f.names) f.kind

number-below : (names : List (List ℕ)) (len : ℕ) (digits : List ℕ) → Holds (IsFoundBelow names) (number_found names len digits)
number-below names len digits = go (nat_lt (digits_value 10 digits) (2 ^ 63))
  where
    go : (t : Bool) → Holds (IsFoundBelow names) ((cond t (Ok (Number (pos (digits_value 10 digits)))) (Err BadToken)) >>= λ kind. Ok (record { kind = kind; len = len; names = names }))
    go true = record { more = omega arith; kind = tt }
    go false = tt

name-below : (names : List (List ℕ)) (len : ℕ) (name : List ℕ) → Holds (IsFoundBelow names) (name_found names len name)
name-below names len name = go (begins_name name)
  where
    longer : length names ≤ length (with_name names name)
    longer = let (more, e) = with-front names name in let n : length (with_name names name) ≡ length names + length more = ap length e ∙ length-append names more in omega (arith, n)

    go : (t : Bool) → Holds (IsFoundBelow names) (cond t (Ok (record { kind = Name (name_index names name); len = len; names = with_name names name })) (Err BadToken))
    go true = record { more = longer; kind = with-inside names name (name_index names name) refl }
    go false = tt

word-below : (names : List (List ℕ)) (len : ℕ) (word : List ℕ) (round : Option ℕ) → Holds (IsFoundBelow names) (word_found names len word round)
word-below names len word (Some round) = record { more = omega arith; kind = tt }
word-below names len word None = go (list_all is_ascii_digit word)
  where
    go : (t : Bool) → Holds (IsFoundBelow names) (cond t (number_found names len word) (name_found names len word))
    go true = number-below names len word
    go false = name-below names len word

sign-below : (names : List (List ℕ)) (two one : Option Sign) → Holds (IsFoundBelow names) (sign_found names two one)
sign-below names (Some s) one = record { more = omega arith; kind = tt }
sign-below names None (Some s) = record { more = omega arith; kind = tt }
sign-below names None None = tt

token-below : (loops : List OpenLoop) (names : List (List ℕ)) (bs : List ℕ) → Holds (IsFoundBelow names) (token_at loops names bs)
token-below loops names bs = go (not (list_all is_ascii (take 1 bs))) (begins_word bs)
  where
    word : (raw : List ℕ) (r : Result (List ℕ) TextProblem) → Holds (IsFoundBelow names) (r >>= λ word. word_found names (length raw) word (round_of loops word))
    word raw (Ok w) = word-below names (length raw) w (round_of loops w)
    word raw (Err e) = tt

    go : (a b : Bool) → Holds (IsFoundBelow names) (cond a (Err NotAscii) (cond b (word_token loops names (take (word_len bs) bs)) (sign_token names bs)))
    go true b = tt
    go false true = word (take (word_len bs) bs) (joined loops (take (word_len bs) bs))
    go false false = sign-below names (look_up two_byte_signs (take 2 bs)) (look_up one_byte_signs (take 1 bs))

-- ---- One token after another

abbrev pub IsScannedBelow : Scanned → Type 0
IsScannedBelow s = TokensBelow (length s.names) s.tokens

room-below : (room line at : ℕ) (s : Scanned) (f : Found) → IsScannedBelow s → IsFoundBelow s.names f → Holds IsScannedBelow (with_room room s line at f)
room-below room line at s f h is = go (nat_lt (length s.tokens) room)
  where
    go : (b : Bool) → Holds IsScannedBelow (cond b (Ok (with_token s line at f)) (Err (problem_at (span_at at f.len) TooLong)))
    go true =
        below-push (length f.names) s.tokens (record { kind = f.kind; line = line; from = at; to = at + f.len })
        (below-more (length s.names) (length f.names) is.more s.tokens h) is.kind
    go false = tt

module _ (loops : List OpenLoop) (line room : ℕ) where
  scan-below : (bs : List ℕ) (at skip : ℕ) (s : Scanned) → IsScannedBelow s → Holds IsScannedBelow (scan_from loops line room at skip bs s)
  scan-below [] at zero s h = h
  scan-below [] at (suc skip) s h = h
  scan-below (b ∷ bs) at (suc skip) s h = scan-below bs (at + 1) skip s h
  scan-below (b ∷ bs) at zero s h = go (is_blank b) (λ skip t k. scan-below bs (at + 1) skip t k)
    where
      go : (c : Bool) → ((skip : ℕ) (t : Scanned) → IsScannedBelow t → Holds IsScannedBelow (scan_from loops line room (at + 1) skip bs t))
          → Holds IsScannedBelow
          (elim c as (λ _. Result Scanned TextTokenProblem) [
            | true ↦ scan_from loops line room (at + 1) 0 bs s
            | false ↦ at_token (span_at at (unread_len (b ∷ bs))) (token_at loops s.names (b ∷ bs)) >>= λ f. with_room room s line at f >>= λ t. scan_from loops line room (at + 1) (f.len - 1) bs t
          ])
      go true on = on 0 s h
      go false on =
          holds-then (IsFoundBelow s.names) IsScannedBelow (at_token (span_at at (unread_len (b ∷ bs))) (token_at loops s.names (b ∷ bs))) (λ f. with_room room s line at f >>= λ t. scan_from loops line room (at + 1) (f.len - 1) bs t)
          (holds-token (IsFoundBelow s.names) (span_at at (unread_len (b ∷ bs))) (token_at loops s.names (b ∷ bs)) (token-below loops s.names (b ∷ bs)))
          (λ f is. holds-then IsScannedBelow IsScannedBelow (with_room room s line at f) (λ t. scan_from loops line room (at + 1) (f.len - 1) bs t) (room-below room line at s f h is) (λ t k. on (f.len - 1) t k))

abbrev pub IsRowBelow : WithTokens → Type 0
IsRowBelow r = TokensBelow (length r.1.names) r.0

pub row-below : (row : SourceRow) (at : ℕ) (st : Reading) → Holds IsRowBelow (row_tokens row at st)
row-below row at st =
    holds-then IsScannedBelow IsRowBelow (tokens st.loops row.number (row.at + at) (limit - st.tokens_read) st.names (before_comment (drop at row.bytes)))
    (λ s. Ok (s.tokens, record st { names = s.names; tokens_read = st.tokens_read + length s.tokens }))
    (scan-below st.loops row.number (limit - st.tokens_read) (before_comment (drop at row.bytes)) (row.at + at) 0 (record { tokens = []; names = st.names }) tt)
    (λ s h. h)

-- ---- The name before FOR or EQU

some-there : (names : List (List ℕ)) (m : ℕ) → m < length names → IsThere names (Some m)
some-there names m less n is = let same : m ≡ n = cc in omega (arith, less, same)

none-there : (names : List (List ℕ)) → IsThere names None
none-there names n is = cc

alone-there : (names : List (List ℕ)) (n : ℕ) (ts : List Token) → IsThere names (Some n) → Holds (IsThere names) (name_alone n ts)
alone-there names n [] h = h
alone-there names n (t ∷ ts) h = tt

colon-there : (names : List (List ℕ)) (n : ℕ) (ts : List Token) → IsThere names (Some n) → Holds (IsThere names) (name_with_colon n ts)
colon-there names n [] h = h
colon-there names n (t ∷ ts) h = go (is_colon t.kind)
  where
    go : (c : Bool) → Holds (IsThere names) (elim c as (λ _. Result (Option ℕ) TextTokenProblem) [ true ↦ name_alone n ts | false ↦ Err (misplaced t) ])
    go true = alone-there names n ts h
    go false = tt

front-there : (names : List (List ℕ)) (ts : List Token) → TokensBelow (length names) ts → Holds (IsThere names) (name_in_front ts)
front-there names [] h = none-there names
front-there names (t ∷ ts) h = go t.kind h.0
  where
    go : (k : TokenKind) → IsBelow (length names) k → Holds (IsThere names) (elim k as (λ _. Result (Option ℕ) TextTokenProblem) [ Name n ↦ name_with_colon n ts | _ ↦ Err (misplaced t) ])
    go (Name n) b = colon-there names n ts (some-there names n b)
    go (Number v) b = tt
    go (token.Sign s) b = tt

pub counter-there : (row : SourceRow) (at : ℕ) (st next : Reading) (ts : List Token) (from : ℕ) (name : Option ℕ) → row_tokens row at st ≡ Ok (ts, next)
    → name_in_front (tokens_before from ts) ≡ Ok name → IsThere next.names name
counter-there row at st next ts from name read front =
    let below = below-before (length next.names) from ts (subst (Holds IsRowBelow) read (row-below row at st)) in
    subst (Holds (IsThere next.names)) front (front-there next.names (tokens_before from ts) below)
