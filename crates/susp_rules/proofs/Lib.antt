pub mod UpOrders
pub mod UpSteps
pub mod Questions
pub mod UpQuotes
pub mod RuleReads
pub mod RuleLimits
pub mod ShownSuspensions
