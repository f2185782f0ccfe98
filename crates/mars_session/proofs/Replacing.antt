-- Replacing the last item of a buffer.
use Rattle.std.proofs.Common.{◌≡◌, ℕ, ◌+◌, ◌-◌, ◌≤◌, List, [], ◌∷◌, ◌++◌, length, set, drop, arith}
use Rattle.std.proofs.Math.Seq.{set-append_seam}
use Rattle.std.proofs.lemmas.List.{length_push, drop-append-le}
use Rattle.circular_buffer.specs.Buffer.{keep_last}

-- Appending `e` and then replacing it by `f` is the same as appending `f`.
pub replaced : {X : Type 0} (n : ℕ) (xs : List X) (e f : X) → 1 ≤ n → set (keep_last n (xs ++ e ∷ [])) (length (keep_last n (xs ++ e ∷ [])) - 1) f ≡ keep_last n (xs ++ f ∷ [])
replaced n xs e f some =
    let k = length xs + 1 - n in
    let few : k ≤ length xs = omega (arith, some) in
    let one : length (drop k xs ++ e ∷ []) - 1 ≡ length (drop k xs) = omega (arith, length_push (drop k xs) e) in
    rw (length_push xs e, length_push xs f, drop-append-le k xs (e ∷ []) few, drop-append-le k xs (f ∷ []) few, one) (set-append_seam (drop k xs) e [] f)
