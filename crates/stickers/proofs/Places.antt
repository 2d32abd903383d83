-- The tables of stickers and letters: their lengths, and that each sticker is one of the 54. Assumes nothing.
use mathlib.Core.Path.{◌≡◌, refl}
use Prim.Native.Nat.{ℕ, ◌<◌}
use native.Mathlib.Omega.{arith}
use lib.ListN.{length, get_or}
use Rattle.base.specs.Lists.{Under}
use Rattle.base.proofs.Tests.{in_range-under, under_at}
use Rattle.stickers.specs.Stickers.{corner_facelet, edge_facelet, corner_color, edge_color}

pub corner-places : (length corner_facelet ≡ 24) × Under 54 corner_facelet
unfolding corner_facelet
corner-places = (refl, in_range-under 54 corner_facelet refl)

pub edge_places : (length edge_facelet ≡ 24) × Under 54 edge_facelet
unfolding edge_facelet
edge_places = (refl, in_range-under 54 edge_facelet refl)

pub corner-letters : length corner_color ≡ 24
unfolding corner_color
corner-letters = refl

pub edge-letters : length edge_color ≡ 24
unfolding edge_color
edge-letters = refl

pub corner-place : (k : ℕ) → k < 24 → get_or corner_facelet k 0 < 54
corner-place k h = under_at 54 corner_facelet k corner-places.1 (omega (arith, corner-places.0))

pub edge-place : (k : ℕ) → k < 24 → get_or edge_facelet k 0 < 54
edge-place k h = under_at 54 edge_facelet k edge_places.1 (omega (arith, edge_places.0))
