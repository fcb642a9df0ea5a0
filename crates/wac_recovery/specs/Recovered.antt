-- The faults of a text, each found after the statements of the earlier ones were blanked.
use Rattle.std.specs.Prelude.{◌≡◌, ◌<◌, ◌-◌, ℕ, List, [], ◌∷◌, ◌⊎◌, map, option_map, string_bytes, Option, Some, None, MatchOption}
use Rattle.wac_recovery.specs.Attempts.{Attempt, attempt_of, next, whole}
use Rattle.wac_recovery.specs.Faults.{IsFaultless, IsWrongWith, Wrong, moved_back, place_of, wrong_of}
use Rattle.wac_recovery.specs.declared.recovery.Recovery.{Recovery}
use Rattle.wac_recovery.specs.declared.recovery.Round.{Round}

-- From one attempt on to the last, at most so many faults are found: each is what is wrong with its attempt first, and
-- lies where it does in the source. There are no more where nothing is wrong, or where nothing more can be blanked.
abbrev pub Recovers : ℕ → Attempt → List Wrong → Attempt → Type 0
Recovers limit a [] last = (last ≡ a) × ((limit ≡ 0) ⊎ IsFaultless a.text)
Recovers limit a (w ∷ ws) last =
    (0 < limit)
    × ((found : Wrong) × IsWrongWith a.text found × (w ≡ moved_back a.skip found)
    × (((next a (place_of found).offset ≡ None) × (ws ≡ []) × (last ≡ a))
    ⊎ ((after : Attempt) × (next a (place_of found).offset ≡ Some after) × Recovers (limit - 1) after ws last)))

-- what is left of the text
abbrev pub left_of : Recovery → Attempt
left_of r = record { text = string_bytes r.text; skip = r.skip }

-- what recovering a source gives
abbrev pub IsRecovery : List ℕ → ℕ → Recovery → Type 0
IsRecovery source limit r = Recovers limit (whole source) (map wrong_of r.faults.items) (left_of r)

-- what is wrong with an attempt first, and what is tried then
abbrev pub IsRound : Attempt → Round → Type 0
IsRound a r =
    (found : Wrong) × IsWrongWith a.text found
    × (wrong_of r.fault ≡ moved_back a.skip found)
    × (option_map attempt_of r.next ≡ next a (place_of found).offset)

-- what is found of an attempt: nothing where nothing is wrong
abbrev pub IsFirstRound : Attempt → Option Round → Type 0
IsFirstRound a found = MatchOption found (IsFaultless a.text) (λ round. IsRound a round)
