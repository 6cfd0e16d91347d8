-- What holds after every call.
use Prim.Native.Nat.{ℕ, ◌≤◌}
use mathlib.Core.Path.{◌≡◌}
use mathlib.Core.List.{List, [], map}
use lib.ListN.{length}
use Rattle.reference.specs.Step.{State}
use Rattle.agreement.proofs.View.{View}
use Rattle.agreement.proofs.Ghost.{Ghost, Writers, Agree}
use Rattle.agreement.proofs.Chains.{renaming_of, RenameChain, last_names, execution_of, ExecutionChain, last_state}
use Rattle.agreement.proofs.Contents.{Contents, GeneralMap}
use Rattle.agreement.proofs.Pools.{name_of, RegisterPool, NamePool, Live}

-- all but what the in-order run says; committed are the names of the committed state
pub record Accounting (g : Ghost) (committed : List ℕ) (c : View) : Type 0 where
  pub free_registers : List ℕ
  pub free_names : List ℕ
  pub writers : Writers g committed
  pub renamed : RenameChain g committed (map renaming_of c.entries)
  pub contents : Contents g c.physical c.values c.entries
  pub register_pool : RegisterPool c.setup.registers c.physical c.free_registers.head c.free_registers.link free_registers
  pub name_pool : NamePool c.setup.window committed (map name_of c.entries) c.free_names.head c.free_names.link free_names
  pub live : Live c.physical committed (map name_of c.entries) free_names
  -- the general map
  pub shows : c.names ≡ last_names committed (map renaming_of c.entries)
  pub general : GeneralMap c.physical c.names c.registers
  pub physical_room : length c.physical ≡ 96
  pub values_room : length c.values ≡ 96
  pub value_room : length g.value ≡ 96
  pub writer_room : length g.writer ≡ 96
  pub enough : 32 ≤ c.setup.registers
  pub some : 1 ≤ c.setup.window
  pub within : length c.entries ≤ c.setup.window

-- s is the in-order state after the accepted commits
pub record Invariant (program : List ℕ) (s : State) (c : View) : Type 0 where
  pub ghost : Ghost
  pub committed : List ℕ
  pub accounting : Accounting ghost committed c
  pub agree : Agree ghost committed s.registers
  pub executed : ExecutionChain program ghost s (map execution_of c.entries)
  pub next : c.next ≡ s.address
  pub fetching : c.fetch ≡ (last_state program s (map execution_of c.entries)).address

-- without entries: what the report looks at, and what a halted machine is
pub record Emptied (s : State) (c : View) : Type 0 where
  pub ghost : Ghost
  pub committed : List ℕ
  pub accounting : Accounting ghost committed c
  pub agree : Agree ghost committed s.registers
  pub next : c.next ≡ s.address
  pub empty : c.entries ≡ []
