-- What a call on stickers returns and leaves in the lent bytes. Assumes nothing: these are definitions.
use Rattle.std.specs.Prelude.{◌&&◌, List, ℕ, eqb, length, Result}
use Rattle.refusal.specs.declared.Refusal.{Refusal}
use Rattle.cubie.specs.Cube.{cube_of}
use Rattle.cubie.specs.declared.CubieCube.{CubieCube}
use Rattle.stickers.specs.Picture.{picture_answer}
use Rattle.calls.specs.Calls.{Left, answer_left, cube_left, sized}

-- stickers may have any length: one that is not 54 is the reader's 1
abbrev pub read_call : (List ℕ → Result CubieCube Refusal) → List ℕ → List ℕ → Left
read_call reader s out = sized (eqb (length out) 40) (cube_left (reader s) out) out

abbrev pub picture_call : List ℕ → List ℕ → Left
picture_call s out = sized (eqb (length s) 40 && eqb (length out) 54) (answer_left (λ face. face) (picture_answer (cube_of s)) out) out
