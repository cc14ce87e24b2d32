pub mod AptStages
pub mod AptStagesRows
pub mod AptStagesSteps
pub mod AptStagesOwn
pub mod AptStagesApart
pub mod AptStagesRun
