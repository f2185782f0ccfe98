-- A bound of the indices of names in tokens.
use Rattle.std.specs.Prelude.{◌<◌, ⊤, ℕ}
use Rattle.redcode_text.specs.declared.token.TokenKind.{TokenKind}
use Rattle.redcode_text.specs.declared.token.TokenKind.TheVariants.{Name}

-- If the token is a name, its index is below `n`.
abbrev pub IsBelow : ℕ → TokenKind → Type 0
IsBelow n (Name i) = i < n
IsBelow n _ = ⊤
