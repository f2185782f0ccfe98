use Rattle.std.proofs.Common.{◌≡◌, flat_map, string_bytes}
use Rattle.std.specs.Prelude.{encode_utf8}
use Rattle.mars_app.specs.Loading.{shown_character}
use Rattle.mars_app.proofs.loading.shown_name.Given as goal

abbrev pub invariant-loop-character : goal.invariant-loop-character
invariant-loop-character l = string_bytes l.shown ≡ flat_map (λ ch. encode_utf8 (shown_character ch)) l.yielded
