-- Reports, computed: of a file that was found and of one that was not.
use Rattle.wac_cli.proofs.Common.{◌≡◌, ◌∙◌, refl, inl, inr, [], ◌∷◌, Some, None, false, String, string_bytes, Global, Replacement, Found, Good, Untidy, Rejected, Failed}
use Rattle.wac_files.specs.declared.error.FileError.TheVariants.{NotFound}
use Rattle.wac_cli.specs.Checked.{AreChecks}
use Rattle.wac_cli.specs.Formatted.{ComeTo}
use Rattle.wac_cli.specs.Replacing.{IsFormatting}
use Rattle.wac_cli.specs.declared.options.FormatOptions.{FormatOptions}

abbrev there : String Global → Found
there path = record { path = path; failure = None; is_link = false }

abbrev missing : String Global → Found
missing path = record { path = path; failure = Some NotFound; is_link = false }

-- an outcome each, in order
fmt_reports_both : (options : FormatOptions) (a b : String Global) → ComeTo options (there a ∷ missing b ∷ []) (Good ∷ Failed ∷ []) [] []
fmt_reports_both options a b = ([], refl, ([], (inl refl, refl), refl))

fmt_reports_no_other_order : (options : FormatOptions) (a b : String Global) → ¬ (ComeTo options (there a ∷ missing b ∷ []) (Failed ∷ Good ∷ []) [] [])
fmt_reports_no_other_order options a b come = elim come.2.1.0 [ inl e ↦ cc | inr e ↦ cc ]

fmt_reports_none_twice : (options : FormatOptions) (a : String Global) → ¬ (ComeTo options (there a ∷ []) (Good ∷ Good ∷ []) [] [])
fmt_reports_none_twice options a come = come.2

fmt_passes_none_over : (options : FormatOptions) (a b : String Global) → ¬ (ComeTo options (there a ∷ there b ∷ []) (Good ∷ []) [] [])
fmt_passes_none_over options a b come = come.2

-- a file that was written was not tidy, and did not fail
written_was_untidy : (options : FormatOptions) (a : String Global) (r : Replacement) → r.path ≡ string_bytes a → IsFormatting options r
    → ComeTo options (there a ∷ []) (Untidy ∷ []) [] (r ∷ [])
written_was_untidy options a r at is = (r ∷ [], inl (r, at, is, refl), refl)

written_did_not_fail : (options : FormatOptions) (a : String Global) (r : Replacement) → ¬ (ComeTo options (there a ∷ []) (Failed ∷ []) [] (r ∷ []))
written_did_not_fail options a r come = let both : r ∷ [] ≡ [] = come.2 ∙ come.1 in cc

-- `check` reports the same way, and nothing as not tidy
check_reports_both : (a b : String Global) → AreChecks (there a ∷ missing b ∷ []) (Rejected ∷ Failed ∷ [])
check_reports_both a b = ((λ e. cc), (inl refl, tt))

check_reports_no_other_order : (a b : String Global) → ¬ (AreChecks (missing a ∷ there b ∷ []) (Good ∷ Failed ∷ []))
check_reports_no_other_order a b checks = elim checks.0 [ inl e ↦ cc | inr e ↦ cc ]

check_reports_none_twice : (a : String Global) → ¬ (AreChecks (there a ∷ []) (Good ∷ Good ∷ []))
check_reports_none_twice a checks = checks.1

check_calls_nothing_untidy : (a : String Global) → ¬ (AreChecks (there a ∷ []) (Untidy ∷ []))
check_calls_nothing_untidy a checks = checks.0 refl
