pub mod WaitingBuffers
pub mod WorkerEnds
pub mod OneBuffer
pub mod BufferEnds
