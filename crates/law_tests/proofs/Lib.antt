mod WorkedAddresses
mod WorkedReplies
mod WorkedTerms
mod WorkedSelections
pub mod WorkedAnswers
mod WorkedResponses
mod WorkedRows
mod WorkedWords
