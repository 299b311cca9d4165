mod BufferBytes
mod MadeBuffers
