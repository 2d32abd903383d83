-- What the public functions answer: a number or an arrangement, or a refusal. Assumes nothing: these are definitions.
use Rattle.std.specs.Prelude.{List, ℕ, ltb, Result}
use Rattle.base.specs.Lists.{pick}
use Rattle.refusal.specs.declared.Refusal.{Refusal}
use Rattle.refusal.specs.Refusals.{answered}
use Rattle.numbering.specs.Coordinates.{co_refusal, eo_refusal, e_combo_refusal, cp_refusal, ud_ep_refusal, e_ep_refusal, ep_refusal}
use Rattle.numbering.specs.Coordinates.{co_number, eo_number, e_combo_number, cp_number, ud_ep_number, e_ep_number, ep_number}
use Rattle.numbering.specs.declared.Co.{Co}
use Rattle.numbering.specs.declared.Eo.{Eo}
use Rattle.numbering.specs.declared.ECombo.{ECombo}
use Rattle.numbering.specs.declared.Cp.{Cp}
use Rattle.numbering.specs.declared.UdEp.{UdEp}
use Rattle.numbering.specs.declared.EEp.{EEp}

-- ---- arrangement to number

abbrev pub co_answer : List ℕ → Result Co Refusal
co_answer xs = answered (co_refusal xs) (record { 0 = co_number xs })

abbrev pub eo_answer : List ℕ → Result Eo Refusal
eo_answer xs = answered (eo_refusal xs) (record { 0 = eo_number xs })

abbrev pub e_combo_answer : List ℕ → Result ECombo Refusal
e_combo_answer xs = answered (e_combo_refusal xs) (record { 0 = e_combo_number xs })

abbrev pub cp_answer : List ℕ → Result Cp Refusal
cp_answer xs = answered (cp_refusal xs) (record { 0 = cp_number xs })

abbrev pub ud_ep_answer : List ℕ → Result UdEp Refusal
ud_ep_answer xs = answered (ud_ep_refusal xs) (record { 0 = ud_ep_number xs })

abbrev pub e_ep_answer : List ℕ → Result EEp Refusal
e_ep_answer xs = answered (e_ep_refusal xs) (record { 0 = e_ep_number xs })

abbrev pub ep_answer : List ℕ → Result ℕ Refusal
ep_answer xs = answered (ep_refusal xs) (ep_number xs)

-- ---- number to arrangement: "coordinate not below its count" is 8

abbrev pub arranged : ℕ → (ℕ → List ℕ) → ℕ → Result (List ℕ) Refusal
arranged count of n = answered (pick (ltb n count) 0 8) (of n)
