-- The one test of the table, and what it says of each row.
use mathlib.Core.Path.{◌≡◌, refl}
use mathlib.Core.Bool.{Bool, true}
use mathlib.Core.List.{List, [], ◌∷◌}
use Rattle.laws.proofs.Bools.{and_left, and_right}
use Rattle.word.specs.Field.{field}
use Rattle.word.specs.Signed.{extend}
use Rattle.word.specs.Bytes.{number, put}
use Rattle.isa.specs.Reads.{fixed_part, operation_from, operation_of, constant_of, fields_of, read_of}
use Rattle.isa.specs.Encodes.{within, accepted, constant_part, word_of}
use Rattle.execution.specs.Memory.{accessible, second_by, stored_by, ends_within_by}
use Rattle.execution.specs.Execute.{executed_by}
use Rattle.reference.specs.Fetch.{fetch_at}
use Rattle.execution.specs.Roles.{loads_by, stores_by, stop_by, predicted_by}
use Rattle.reference.specs.Step.{used, read_register, write_register, step_with, first}
use Rattle.tables.specs.Table.{look_under, store_under}
use Rattle.renaming.specs.Core.{tabulate_from}
use Rattle.renaming.specs.SetUp.{rising_link, set_up_of}
use Rattle.ranges.specs.Sizes.{set_up_refusal}
use Rattle.renaming.specs.Range.{machine_in_range}
use Rattle.ranges.specs.Tables.{every_from, tables_within}
use Rattle.ranges.specs.Entries.{entry_in_range}
use Rattle.renaming.specs.Call.{lent_refusal}
use Rattle.renaming.specs.Changes.{change_first}
use Rattle.decoding.specs.Decode.{decode_refusal, enter, decode_of}
use Rattle.issuing.specs.Issue.{store_below, issue_refusal, issued, issue_of}
use Rattle.completing.specs.Complete.{complete_refusal, learned, redirected, complete_of}
use Rattle.stealing.specs.Steal.{victim_among, robbed}
use Rattle.committing.specs.Commit.{commit_refusal, move_down, retired, commit_of}
use Rattle.window.specs.Calls.{make}
use Rattle.agreement.specs.Lists.{make_event, make_all}
use Rattle.worked.specs.Same.{same_list}
use Rattle.worked.specs.Calls.{answers_from}
use Rattle.worked.specs.Claims.{test}
use Rattle.worked.specs.Table.{Row, table, holds, Means, every, check, In, here, there}
use Rattle.worked.proofs.ClaimLaws.{says}

-- computed from the definitions
pub passes : check ≡ true
unfolding field extend number put fixed_part operation_from operation_of constant_of fields_of read_of within accepted constant_part word_of accessible second_by stored_by ends_within_by executed_by fetch_at loads_by stores_by stop_by predicted_by used read_register write_register step_with first look_under store_under tabulate_from rising_link set_up_refusal set_up_of every_from entry_in_range tables_within machine_in_range change_first lent_refusal decode_refusal enter decode_of store_below issue_refusal issued issue_of victim_among complete_refusal robbed learned redirected complete_of commit_refusal move_down retired commit_of make make_event make_all same_list answers_from test every
passes = refl

-- what passes at every row passes at each
pub every_in : (f : Row → Bool) (r : Row) (rows : List Row) → In r rows → every f rows ≡ true → f r ≡ true
unfolding every
every_in f r [] i t = elim i [ ]
every_in f r (_ ∷ rows) here t = and_left (f r) (every f rows) t
every_in f r (other ∷ rows) (there i) t = every_in f r rows i (and_right (f other) (every f rows) t)

pub row_holds : (r : Row) → In r table → holds r ≡ true
row_holds r i = every_in holds r table i passes

pub row_means : (r : Row) → In r table → Means r
row_means r i = says r.claim (row_holds r i)
