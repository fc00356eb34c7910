pub mod RuleForm
pub mod ResourceForm
pub mod FailureForm
pub mod Demo
pub mod Description
pub mod Steps
