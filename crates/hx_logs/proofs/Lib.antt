pub mod Added
pub mod Cuts
pub mod EntriesPrinted
pub mod EntriesRead
mod Examples
pub mod IndentedLines
pub mod OnRoll
pub mod PrintedLogs
pub mod ReadLogs
pub mod Shapes
pub mod Walking
pub mod WordsPrinted
pub mod WordsRead
