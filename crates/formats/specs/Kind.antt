-- "Kinds: 1 decode, 2 issue, 3 complete, 4 commit."
use Rattle.std.specs.Prelude.{ℕ, Result, Bool, not, ◌≡◌, true, ◌&&◌, leb}
use Rattle.std.specs.Result.{MatchResult}
use Rattle.refusals.specs.declared.Refusal.{Refusal}
use Rattle.refusals.specs.declared.Refusal.TheVariants.{UnknownKind}
use Rattle.formats.specs.declared.kind.Kind.{Kind}
use Rattle.formats.specs.declared.kind.Kind.TheVariants.{Decode, Issue, Complete, Commit}

abbrev pub decode_kind : ℕ
decode_kind = 1

abbrev pub issue_kind : ℕ
issue_kind = 2

abbrev pub complete_kind : ℕ
complete_kind = 3

abbrev pub commit_kind : ℕ
commit_kind = 4

abbrev pub number_of_kind : Kind → ℕ
number_of_kind Decode = decode_kind
number_of_kind Issue = issue_kind
number_of_kind Complete = complete_kind
number_of_kind Commit = commit_kind

abbrev pub unknown : ℕ → Bool
unknown number = not (leb decode_kind number && leb number commit_kind)

-- a number that is read as a kind
abbrev pub KindIs : ℕ → Result Kind Refusal → Type 0
KindIs number r = MatchResult r (λ kind. number_of_kind kind ≡ number) (λ refusal. (refusal ≡ UnknownKind) × (unknown number ≡ true))
