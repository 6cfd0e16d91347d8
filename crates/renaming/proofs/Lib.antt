-- Laws of the machine.
pub mod TabulateLaws
pub mod DefaultLaws
pub mod FunctionLaws
pub mod SetUpLaws
pub mod FreshLaws
pub mod RangeLaws
pub mod FreshInRange
pub mod DropLaws
pub mod RefusalLaws
pub mod ChangeLaws
pub mod EntryLaws
pub mod OperationLaws
