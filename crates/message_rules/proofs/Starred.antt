-- T20. The definitions agree with all the starred cases, and with those that 02 names.
use mathlib.Core.Path.{◌≡◌, refl}
use mathlib.Core.Bool.{true}
use Rattle.message_rules.specs.Starred.{case_agrees, all_agree, starred_cases, requested_cases}

pub starred : all_agree starred_cases ≡ true
unfolding all_agree case_agrees starred_cases
starred = refl

pub requested : all_agree requested_cases ≡ true
unfolding all_agree case_agrees requested_cases
requested = refl
