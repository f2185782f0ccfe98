-- The scan of a text, one token at a time.
use Rattle.std.proofs.Common.{◌≡◌, ℕ, zero, suc, ◌+◌, ◌-◌, ◌<◌, ◌≤◌, List, [], ◌∷◌, length, drop, take, drop-drop, subst, get_or, Bool, true, false, not, ◌&&◌, cond, Some, None, Option, Result, Ok, Err, refl, ap, sym, ◌∙◌, arith, nat_lt}
use Rattle.std.proofs.Math.Seq.{drop-cons}
use Rattle.std.proofs.lemmas.Bool.Decides.{nat_tests}
use Rattle.std.proofs.lemmas.List.{take_rest}
use Rattle.std.specs.Char.{is_ascii}
use Rattle.redcode_text.specs.Results.{◌>>=◌}
use Rattle.redcode_text.specs.declared.fault.TextProblem.{TextProblem}
use Rattle.redcode_text.specs.declared.fault.TextTokenProblem.{TextTokenProblem}
use Rattle.redcode_text.specs.declared.fault.TextProblem.TheVariants.{NotAscii, TooLong}
use Rattle.redcode_text.specs.declared.token.Sign.{Sign}
use Rattle.redcode_text.specs.declared.token.Span.{Span}
use Rattle.redcode_text.specs.declared.token.Spelled.{Spelled}
use Rattle.redcode_text.proofs.Failing.{bind-ok, fails-bind, fails-itself, fails-token}
use Rattle.redcode_text.specs.Code.Problems.{GivesBare, Fails, FailsBare}
use Rattle.redcode_text.specs.Code.Scanning.{with_names, found_without_names}
use Rattle.redcode_text.specs.Code.Scanning.{one_token}
use Rattle.redcode_text.specs.Tokens.{OpenLoop, Found, Scanned, at_token, problem_at, span_at, unread_len, is_blank, begins_word, token_at, word_token, word_len, look_up, one_byte_signs, two_byte_signs, sign_found, sign_token, scan_from, with_room, with_token}

-- ---- Signs

abbrev renamed : List (List ℕ) → Result Found TextProblem → Result Found TextProblem
renamed names (Ok f) = Ok (record { kind = f.kind; len = f.len; names = names })
renamed names (Err e) = Err e

renamed-sign : (names : List (List ℕ)) (two one : Option Sign) → renamed names (sign_found [] two one) ≡ sign_found names two one
renamed-sign names (Some s) one = refl
renamed-sign names None (Some s) = refl
renamed-sign names None None = refl

gives-renamed : (names : List (List ℕ)) (r : Result Spelled TextProblem) → GivesBare (with_names names) r (renamed names (found_without_names r))
gives-renamed names (Ok x) = refl
gives-renamed names (Err e) = fails-itself Found e

-- Reading a sign doesn't change the names.
sign-gives : (names : List (List ℕ)) (two one : Option Sign) (r : Result Spelled TextProblem) → found_without_names r ≡ sign_found [] two one → GivesBare (with_names names) r (sign_found names two one)
sign-gives names two one r e = subst (GivesBare (with_names names) r) (ap (renamed names) e ∙ renamed-sign names two one) (gives-renamed names r)

token-is-sign : (loops : List OpenLoop) (names : List (List ℕ)) (b : ℕ) (bs : List ℕ) → is_ascii b ≡ true → begins_word (b ∷ bs) ≡ false → sign_token names (b ∷ bs) ≡ token_at loops names (b ∷ bs)
token-is-sign loops names b bs a w = sym (λ i. cond (not (a i && true)) (Err NotAscii) (cond (w i) (word_token loops names (take (word_len (b ∷ bs)) (b ∷ bs))) (sign_token names (b ∷ bs))))

pub sign-at : (loops : List OpenLoop) (names : List (List ℕ)) (bs : List ℕ) (r : Result Spelled TextProblem) → 0 < length bs → is_ascii (get_or bs 0 0) ≡ true → begins_word bs ≡ false
    → found_without_names r ≡ sign_token [] bs → GivesBare (with_names names) r (token_at loops names bs)
sign-at loops names [] r some a w e = absurd (omega arith)
sign-at loops names (b ∷ bs) r some a w e = subst (GivesBare (with_names names) r) (token-is-sign loops names b bs a w) (sign-gives names (look_up two_byte_signs (take 2 (b ∷ bs))) (look_up one_byte_signs (take 1 (b ∷ bs))) r e)

-- ---- A line

abbrev pub measured : ℕ → Scanned → Result (ℕ × Scanned) TextTokenProblem
measured len t = Ok (len, t)

-- Splitting off the step that reads one token, if it is found and there is room, doesn't change the result.
one-then : {A : Type 0} (r : Result Found TextTokenProblem) (w : Found → Result Scanned TextTokenProblem) (rest : ℕ → Scanned → Result A TextTokenProblem)
    → (r >>= λ f. w f >>= λ t. rest f.len t) ≡ ((r >>= λ f. w f >>= measured f.len) >>= λ q. rest q.0 q.1)
one-then {A} (Ok f) w rest = go (w f)
  where
    go : (x : Result Scanned TextTokenProblem) → (x >>= λ t. rest f.len t) ≡ ((x >>= measured f.len) >>= λ q. rest q.0 q.1)
    go (Ok t) = refl
    go (Err e) = refl
one-then (Err e) w rest = refl

module _ (loops : List OpenLoop) (line room : ℕ) where
  -- The remaining bytes of a token are skipped.
  skip : (k at : ℕ) (bs : List ℕ) (s : Scanned) → scan_from loops line room at k bs s ≡ scan_from loops line room (at + k) 0 (drop k bs) s
  skip zero at bs s = let e : at ≡ at + 0 = omega arith in ap (λ a. scan_from loops line room a 0 bs s) e
  skip (suc k) at [] s = refl
  skip (suc k) at (b ∷ bs) s = let e : at + 1 + k ≡ at + suc k = omega arith in skip k (at + 1) bs s ∙ ap (λ a. scan_from loops line room a 0 (drop k bs) s) e

  abbrev from_token : ℕ → List ℕ → List ℕ → Scanned → Result Scanned TextTokenProblem
  from_token at bs rest s = at_token (span_at at (unread_len bs)) (token_at loops s.names bs) >>= λ f. with_room room s line at f >>= λ t. scan_from loops line room (at + 1) (f.len - 1) rest t

  at-byte : (at i : ℕ) (bs : List ℕ) (s : Scanned) (t : Bool) → i < length bs → is_blank (get_or bs i 0) ≡ t
      → scan_from loops line room (at + i) 0 (drop i bs) s ≡ elim t as (λ _. Result Scanned TextTokenProblem) [
        | true ↦ scan_from loops line room (at + i + 1) 0 (drop (suc i) bs) s
        | false ↦ from_token (at + i) (get_or bs i 0 ∷ drop (suc i) bs) (drop (suc i) bs) s
      ]
  at-byte at i bs s t h e =
      ap (λ l. scan_from loops line room (at + i) 0 l s) (drop-cons bs i 0 h)
      ∙ ap (λ t. elim t as (λ _. Result Scanned TextTokenProblem) [
        | true ↦ scan_from loops line room (at + i + 1) 0 (drop (suc i) bs) s
        | false ↦ from_token (at + i) (get_or bs i 0 ∷ drop (suc i) bs) (drop (suc i) bs) s
      ]) e

  -- The next token, and the tokens after it.
  at-token : (at i : ℕ) (bs : List ℕ) (s : Scanned) → i < length bs → is_blank (get_or bs i 0) ≡ false
      → scan_from loops line room (at + i) 0 (drop i bs) s ≡ (one_token loops line room (at + i) (drop i bs) s >>= λ q. scan_from loops line room (at + i + 1) (q.0 - 1) (drop (suc i) bs) q.1)
  at-token at i bs s h e =
      at-byte at i bs s false h e
      ∙ ap (λ l. from_token (at + i) l (drop (suc i) bs) s) (sym (drop-cons bs i 0 h))
      ∙ one-then (at_token (span_at (at + i) (unread_len (drop i bs))) (token_at loops s.names (drop i bs))) (with_room room s line (at + i)) (λ len t. scan_from loops line room (at + i + 1) (len - 1) (drop (suc i) bs) t)

  pub scan-token : (at i : ℕ) (bs : List ℕ) (s t : Scanned) (len : ℕ) → i < length bs → is_blank (get_or bs i 0) ≡ false → 1 ≤ len → one_token loops line room (at + i) (drop i bs) s ≡ Ok (len, t)
      → scan_from loops line room (at + i) 0 (drop i bs) s ≡ scan_from loops line room (at + (i + len)) 0 (drop (i + len) bs) t
  scan-token at i bs s t len h b some e =
      let a : at + i + 1 + (len - 1) ≡ at + (i + len) = omega arith in
      let n : suc i + (len - 1) ≡ i + len = omega arith in
      at-token at i bs s h b
      ∙ bind-ok _ _ (λ q. scan_from loops line room (at + i + 1) (q.0 - 1) (drop (suc i) bs) q.1) e
      ∙ skip (len - 1) (at + i + 1) (drop (suc i) bs) t
      ∙ ap (λ l. scan_from loops line room (at + i + 1 + (len - 1)) 0 l t) (drop-drop (len - 1) (suc i) bs)
      ∙ (λ j. scan_from loops line room (a j) 0 (drop (n j) bs) t)

  pub scan-fails : (at i : ℕ) (bs : List ℕ) (s : Scanned) (e : TextTokenProblem) → i < length bs → is_blank (get_or bs i 0) ≡ false → Fails e (one_token loops line room (at + i) (drop i bs) s)
      → Fails e (scan_from loops line room (at + i) 0 (drop i bs) s)
  scan-fails at i bs s e h b f =
      subst (Fails e) (sym (at-token at i bs s h b)) (fails-bind e (one_token loops line room (at + i) (drop i bs) s) (λ q. scan_from loops line room (at + i + 1) (q.0 - 1) (drop (suc i) bs) q.1) f)

pub room-none : (room line at : ℕ) (s : Scanned) (f : Found) → room ≤ length s.tokens → with_room room s line at f ≡ Err (problem_at (span_at at f.len) TooLong)
room-none room line at s f h = let e : nat_lt (length s.tokens) room ≡ false = grind (arith, nat_tests) in ap (λ b. cond b (Ok (with_token s line at f)) (Err (problem_at (span_at at f.len) TooLong))) e

pub room-some : (room line at : ℕ) (s : Scanned) (f : Found) → length s.tokens < room → with_room room s line at f ≡ Ok (with_token s line at f)
room-some room line at s f h = let e : nat_lt (length s.tokens) room ≡ true = grind (arith, nat_tests) in ap (λ b. cond b (Ok (with_token s line at f)) (Err (problem_at (span_at at f.len) TooLong))) e

-- ---- One token, from an offset of a line

module _ (loops : List OpenLoop) (line room at i : ℕ) (bs : List ℕ) (s : Scanned) where
  -- The token at the start of the bytes that the code looks at, which are the bytes from `i` on.
  abbrev looked_at : Result Found TextProblem
  looked_at = token_at loops s.names (take (length bs - i) (drop i bs))

  abbrev spanned : List ℕ → Option Span
  spanned l = span_at at (unread_len l)

  abbrev then_added : Result Found TextTokenProblem → Result (ℕ × Scanned) TextTokenProblem
  then_added r = r >>= λ f. with_room room s line at f >>= measured f.len

  looks : one_token loops line room at (drop i bs) s ≡ then_added (at_token (spanned (take (length bs - i) (drop i bs))) looked_at)
  looks = ap (λ l. then_added (at_token (spanned l) (token_at loops s.names l))) (sym (take_rest bs i))

  pub one-fails : (e : TextProblem) (span : Option Span) → span ≡ spanned (take (length bs - i) (drop i bs)) → FailsBare e looked_at → Fails (problem_at span e) (one_token loops line room at (drop i bs) s)
  one-fails e span is h =
      subst (Fails (problem_at span e)) (sym (looks ∙ ap (λ p. then_added (at_token p looked_at)) (sym is)))
      (fails-bind (problem_at span e) (at_token span looked_at) (λ f. with_room room s line at f >>= measured f.len) (fails-token span e looked_at h))

  abbrev added : Result Found TextProblem → Result (ℕ × Scanned) TextTokenProblem
  added r = then_added (at_token (spanned (take (length bs - i) (drop i bs))) r)

  pub one-full : (f : Found) → looked_at ≡ Ok f → room ≤ length s.tokens → one_token loops line room at (drop i bs) s ≡ Err (problem_at (span_at at f.len) TooLong)
  one-full f h full = looks ∙ ap added h ∙ ap (λ r. r >>= measured f.len) (room-none room line at s f full)

  pub one-ok : (f : Found) → looked_at ≡ Ok f → length s.tokens < room → one_token loops line room at (drop i bs) s ≡ measured f.len (with_token s line at f)
  one-ok f h some = looks ∙ ap added h ∙ ap (λ r. r >>= measured f.len) (room-some room line at s f some)
