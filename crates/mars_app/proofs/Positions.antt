-- A position that fits the options fits the battle.
use Rattle.std.proofs.Common.{◌≡◌, ℕ, Option, Some, None, IfSome, vec_len, arith}
use Rattle.mars_cell.specs.Parameters.{Parameters}
use Rattle.mars_match.specs.Placement.{FitsTwo}
use Rattle.mars_app.specs.Code.Allowed.{HaveFittingPosition, IsFittingPosition}
use Rattle.mars_app.specs.declared.options.Options.{Options}

fits : (o : Options) (p : Parameters) (warriors : ℕ) (fixed : Option ℕ) → p.core_size ≡ o.core → p.distance ≡ o.distance → warriors ≡ vec_len o.files
    → IfSome fixed (IsFittingPosition o) → FitsTwo p warriors fixed
fits o p warriors None core distance count fit = fit
fits o p warriors (Some position) core distance count fit = (omega (arith, fit.two_files), omega (arith, fit.up), omega (arith, fit.down))

pub position_fits : (o : Options) (p : Parameters) (warriors : ℕ) → p.core_size ≡ o.core → p.distance ≡ o.distance → warriors ≡ vec_len o.files
    → HaveFittingPosition o → FitsTwo p warriors o.fixed
position_fits o p warriors core distance count fit = fits o p warriors o.fixed core distance count fit
